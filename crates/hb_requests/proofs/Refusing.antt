-- The turns of the requests that are refused, or that change nothing.
use Rattle.std.proofs.Common.{ℕ, ◌≤◌, Bool, true, refl, sym, subst, List, []}
use Rattle.hb_types.specs.declared.answer.Answer.{Answer}
use Rattle.hb_types.specs.declared.answer.Answer.TheVariants as answer
use Rattle.hb_types.specs.declared.change.Change.{Change}
use Rattle.hb_types.specs.declared.change.Stored.{Stored}
use Rattle.hb_types.specs.declared.names.Number.{Number}
use Rattle.hb_types.specs.declared.names.Tx.{Tx}
use Rattle.hb_types.specs.declared.request.Request.{Request}
use Rattle.hb_types.specs.declared.request.Request.TheVariants as request
use Rattle.hb_runs.specs.Server.{SState, IsAlive, IsInDoubt, IsUnended}
use Rattle.hb_runs.specs.ServerCauses.{Causes}
use Rattle.hb_runs.specs.ServerAnswers.{RightIn}
use Rattle.hb_engine.specs.declared.engine.Engine.{Engine}
use Rattle.hb_engine.specs.Turned.{Leads, StandsFor, Turned}
use Rattle.hb_engine.proofs.Branches.{live_unended}
use Rattle.hb_requests.specs.Shown.{Shows}
use Rattle.hb_requests.specs.Forced.{LeadsAt}

-- nothing happens
unchanged : (e : Engine) (rows : List Stored) (s : SState) (q : Request) (a : Answer) → StandsFor e rows s → Causes s q a [] → RightIn true s q a → Turned s q a (λ t. StandsFor e rows t)
unchanged e rows s q a st causes right =
    record { state = s; turn = record { effects = []; causes = causes; right = subst (λ (b : Bool). RightIn b s q a) (sym st.up) right; steps = refl }; at = st }

pub shows_leads : (e : Engine) (rows : List Stored) (q : Request) (a : Answer) → Shows e rows q a → LeadsAt e e rows q a
shows_leads e rows q a shows = λ s st. record { state = s; turn = shows s st; at = st }

pub all_leads : (old new : Engine) (rows : List Stored) (q : Request) (a : Answer) → Leads old new q a → LeadsAt old new rows q a
all_leads old new rows q a leads = λ s st. leads rows s st

pub enlist_no_memory : (old new : Engine) (tx : Tx) → ((rows : List Stored) (s : SState) → StandsFor old rows s → StandsFor new rows s) → Leads old new (request.Enlist tx) answer.NoMemory
enlist_no_memory old new tx same = λ rows s st. record {
  state = s;
  turn = record { effects = []; causes = refl; right = subst (λ (b : Bool). RightIn b s (request.Enlist tx) answer.NoMemory) (sym st.up) refl; steps = refl };
  at = same rows s st;
}

pub write_no_memory : (e : Engine) (tx : Tx) (c : Change) → Leads e e (request.Write tx c) answer.NoMemory
write_no_memory e tx c = λ rows s st. unchanged e rows s (request.Write tx c) answer.NoMemory st refl refl

pub prepare_absent : (e : Engine) (tx : Tx) → ((rows : List Stored) (s : SState) → StandsFor e rows s → IsUnended s tx.0 → ⊥) → Leads e e (request.Prepare tx) answer.NoBranch
prepare_absent e tx none = λ rows s st. unchanged e rows s (request.Prepare tx) answer.NoBranch st refl (λ a. none rows s st (live_unended s tx.0 a))

pub prepare_voted : (e : Engine) (tx : Tx) (floor : ℕ) → ((rows : List Stored) (s : SState) → StandsFor e rows s → IsInDoubt s tx.0 floor × (IsAlive s tx.0 → ⊥)) → Leads e e (request.Prepare tx) answer.NoBranch
prepare_voted e tx floor doubt = λ rows s st. unchanged e rows s (request.Prepare tx) answer.NoBranch st refl (doubt rows s st).1

pub commit_absent : (e : Engine) (tx : Tx) (number : Number) → ((rows : List Stored) (s : SState) → StandsFor e rows s → IsUnended s tx.0 → ⊥) → Leads e e (request.Commit tx number) answer.NoBranch
commit_absent e tx number none = λ rows s st. unchanged e rows s (request.Commit tx number) answer.NoBranch st refl (none rows s st)

pub commit_live : (e : Engine) (tx : Tx) (number : Number) → ((rows : List Stored) (s : SState) → StandsFor e rows s → IsAlive s tx.0) → Leads e e (request.Commit tx number) answer.NotPrepared
commit_live e tx number live = λ rows s st. unchanged e rows s (request.Commit tx number) answer.NotPrepared st refl (live rows s st)

pub commit_low : (e : Engine) (tx : Tx) (number floor : Number) → ((rows : List Stored) (s : SState) → StandsFor e rows s → IsInDoubt s tx.0 floor.0 × (IsAlive s tx.0 → ⊥)) → number.0 ≤ floor.0
    → Leads e e (request.Commit tx number) (answer.Low floor)
commit_low e tx number floor doubt low = λ rows s st. unchanged e rows s (request.Commit tx number) (answer.Low floor) st refl ((doubt rows s st).0, low)

pub rollback_absent : (e : Engine) (tx : Tx) → ((rows : List Stored) (s : SState) → StandsFor e rows s → IsUnended s tx.0 → ⊥) → Leads e e (request.Rollback tx) answer.NoBranch
rollback_absent e tx none = λ rows s st. unchanged e rows s (request.Rollback tx) answer.NoBranch st refl (none rows s st)

pub rollback_live : (old new : Engine) (tx : Tx) → ((rows : List Stored) (s : SState) → StandsFor old rows s → IsAlive s tx.0)
    → ((rows : List Stored) (s : SState) → StandsFor old rows s → IsAlive s tx.0 → Turned s (request.Rollback tx) answer.Done (λ t. StandsFor new rows t)) → Leads old new (request.Rollback tx) answer.Done
rollback_live old new tx live drops = λ rows s st. drops rows s st (live rows s st)

-- ---- the requests of other nodes, and of points that can't be begun yet

abbrev pub IsOther : Request → Type 0
IsOther (request.Begin owner) = Unit {0}
IsOther (request.Decide tx votes) = Unit {0}
IsOther (request.Abort tx) = Unit {0}
IsOther (request.Outcome tx) = Unit {0}
IsOther (request.Enter tx owner) = Unit {0}
IsOther (request.Wait tx node path wanted holders) = Unit {0}
IsOther (request.Ready tx) = Unit {0}
IsOther (request.End tx left) = Unit {0}
IsOther (request.Settled tx node) = Unit {0}
IsOther (request.Halted node) = Unit {0}
IsOther _ = ⊥

pub not_mine : (e : Engine) (rows : List Stored) (q : Request) → IsOther q → LeadsAt e e rows q answer.NotMine
not_mine e rows (request.Begin owner) o = λ s st. unchanged e rows s (request.Begin owner) answer.NotMine st refl tt
not_mine e rows (request.Decide tx votes) o = λ s st. unchanged e rows s (request.Decide tx votes) answer.NotMine st refl tt
not_mine e rows (request.Abort tx) o = λ s st. unchanged e rows s (request.Abort tx) answer.NotMine st refl tt
not_mine e rows (request.Outcome tx) o = λ s st. unchanged e rows s (request.Outcome tx) answer.NotMine st refl tt
not_mine e rows (request.Enter tx owner) o = λ s st. unchanged e rows s (request.Enter tx owner) answer.NotMine st refl tt
not_mine e rows (request.Wait tx node path wanted holders) o = λ s st. unchanged e rows s (request.Wait tx node path wanted holders) answer.NotMine st refl tt
not_mine e rows (request.Ready tx) o = λ s st. unchanged e rows s (request.Ready tx) answer.NotMine st refl tt
not_mine e rows (request.End tx left) o = λ s st. unchanged e rows s (request.End tx left) answer.NotMine st refl tt
not_mine e rows (request.Settled tx node) o = λ s st. unchanged e rows s (request.Settled tx node) answer.NotMine st refl tt
not_mine e rows (request.Halted node) o = λ s st. unchanged e rows s (request.Halted node) answer.NotMine st refl tt
not_mine e rows _ o = absurd o

pub start_again : (e : Engine) (rows : List Stored) → LeadsAt e e rows request.Start answer.AlreadyUp
start_again e rows = λ s st. unchanged e rows s request.Start answer.AlreadyUp st refl tt

pub no_point_begins : (e : Engine) (rows : List Stored) → LeadsAt e e rows request.SyncBegin answer.NotBegun
no_point_begins e rows = λ s st. unchanged e rows s request.SyncBegin answer.NotBegun st refl tt

pub no_point_flushes : (e : Engine) (rows : List Stored) → LeadsAt e e rows request.SyncFlush answer.NotBegun
no_point_flushes e rows = λ s st. unchanged e rows s request.SyncFlush answer.NotBegun st refl tt

pub no_point_ends : (e : Engine) (rows : List Stored) → LeadsAt e e rows request.SyncFinish answer.NotBegun
no_point_ends e rows = λ s st. unchanged e rows s request.SyncFinish answer.NotBegun st refl tt
