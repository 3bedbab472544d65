-- What a request causes whose answer has no record.
use Rattle.std.proofs.Common.{◌≡◌, inl, inr, ℕ, Bool, true, refl, sym, ◌∙◌, subst, List, [], ◌∷◌, ◌++◌}
use Rattle.std.proofs.lemmas.Bool.{false≢true}
use Rattle.hb_types.specs.declared.answer.Answer.{Answer}
use Rattle.hb_types.specs.declared.answer.Answer.TheVariants as answer
use Rattle.hb_types.specs.declared.change.Stored.{Stored}
use Rattle.hb_types.specs.declared.lock.Held.{Held}
use Rattle.hb_types.specs.declared.lock.Mode.{Mode}
use Rattle.hb_types.specs.declared.names.Tx.{Tx}
use Rattle.hb_types.specs.declared.places.Path.{Path}
use Rattle.hb_types.specs.declared.places.Path.TheVariants as path
use Rattle.hb_types.specs.declared.request.Request.{Request}
use Rattle.hb_types.specs.declared.request.Request.TheVariants as request
use Rattle.hb_types.specs.Calls.{IsRequest}
use Rattle.hb_types.specs.Ladders.{ladder}
use Rattle.hb_types.specs.Lists.{Each}
use Rattle.hb_types.specs.Places.{IsPath}
use Rattle.hb_types.proofs.Ascending.{Each-front}
use Rattle.hb_runs.specs.Server.{SState, IsAlive, IsInDoubt}
use Rattle.hb_runs.specs.ServerEffects.{Effect, enlisted, written, dropped, Steps}
use Rattle.hb_runs.specs.ServerCauses.{Causes, LockCauses, grants}
use Rattle.hb_runs.specs.ServerAnswers.{Right, RightIn, UpRight}
use Rattle.hb_engine.specs.declared.engine.Engine.{Engine}
use Rattle.hb_engine.specs.Turned.{StandsFor}
use Rattle.hb_engine.proofs.Branches.{not_alive}
use Rattle.hb_engine.proofs.Ending.{doubt_slot}
use Rattle.hb_requests.specs.Forced.{RecordsNone}
use Rattle.hb_force.specs.Quiet.{HasPaths}
use Rattle.hb_force.specs.Standing.{is_quiet}
use Rattle.hb_force.proofs.Sounding.{IsQuiet}

none_quiet : (es : List Effect) → es ≡ [] → Each IsQuiet es
none_quiet es is = subst (Each IsQuiet) (sym is) tt

one_quiet : (es : List Effect) (e : Effect) → IsQuiet e → es ≡ e ∷ [] → Each IsQuiet es
one_quiet es e quiet is = subst (Each IsQuiet) (sym is) (quiet, tt)

abbrev Lies : Held → Type 0
Lies l = IsPath l.path

ladder_lies : (p : Path) (m : Mode) → IsPath p → Each Lies (ladder p m)
ladder_lies (path.Whole s) m is = (is, tt)
ladder_lies (path.Group s g) m is = (is.0, (is, tt))
ladder_lies (path.Key p) m is = (is.0, ((is.0, is.1), (is, tt)))

grants_quiet : (tx : ℕ) (rungs : List Held) → Each Lies rungs → Each IsQuiet (grants tx rungs)
grants_quiet tx [] lies = tt
grants_quiet tx (l ∷ ls) lies = (lies.0, grants_quiet tx ls lies.1)

front_quiet : (tx : ℕ) (rungs front back : List Held) (es : List Effect) → Each Lies rungs → rungs ≡ front ++ back → es ≡ grants tx front → Each IsQuiet es
front_quiet tx rungs front back es lies parts is = subst (Each IsQuiet) (sym is) (grants_quiet tx front (Each-front Lies front back (subst (Each Lies) parts lies)))

lock_quiet : (s : SState) (tx : ℕ) (rungs : List Held) (a : Answer) (es : List Effect) → Each Lies rungs → LockCauses s tx rungs a es → Each IsQuiet es
lock_quiet s tx rungs answer.Done es lies is = subst (Each IsQuiet) (sym is) (grants_quiet tx rungs lies)
lock_quiet s tx rungs (answer.Blocked p m holders) es lies is = front_quiet tx rungs is.front (is.rung ∷ is.back) es lies is.parts is.effects
lock_quiet s tx rungs answer.NoMemory es lies is = front_quiet tx rungs is.0 is.1 es lies is.2 is.3
lock_quiet s tx rungs _ es lies is = none_quiet es is

enlist_quiet : (s : SState) (tx : Tx) (a : Answer) (es : List Effect) → IsRequest (request.Enlist tx) → Causes s (request.Enlist tx) a es → Each IsQuiet es
enlist_quiet s tx answer.Done es well (inl first) = one_quiet es (enlisted tx.0) well first.1
enlist_quiet s tx answer.Done es well (inr again) = none_quiet es again.1
enlist_quiet s tx _ es well is = none_quiet es is

start_quiet : (s t : SState) (a : Answer) (es : List Effect) → s.up ≡ true → UpRight s request.Start a → Causes s request.Start a es → Steps s es t → Each IsQuiet es
start_quiet s t (answer.Started doubts) es up right is steps = absurd right
start_quiet s t answer.NoMemory es up right (inl is) steps = none_quiet es is
start_quiet s t answer.NoMemory es up right (inr is) steps = absurd (false≢true (sym (subst (λ (l : List Effect). Steps s l t) is steps).0 ∙ up))
start_quiet s t _ es up right is steps = none_quiet es is

rollback_quiet : (s t : SState) (tx : Tx) (es : List Effect) → IsAlive s tx.0 → ((floor : ℕ) → IsInDoubt s tx.0 floor → IsAlive s tx.0 → ⊥) → Causes s (request.Rollback tx) answer.Done es → Steps s es t → Each IsQuiet es
rollback_quiet s t tx es alive never (inl is) steps = one_quiet es (dropped tx.0) tt is
rollback_quiet s t tx es alive never (inr is) steps = let first = (subst (λ (l : List Effect). Steps s l t) is steps).0 in absurd (never first.0 first.1 alive)

-- a branch in doubt does not live
pub doubt_dead : (e : Engine) (rows : List Stored) (s : SState) (tx floor : ℕ) → StandsFor e rows s → IsInDoubt s tx floor → IsAlive s tx → ⊥
doubt_dead e rows s tx floor st doubt = not_alive s tx (doubt_slot e.slots e.locks e.floor rows s tx floor st doubt).no_live

pub up_right : (s : SState) (q : Request) (a : Answer) → s.up ≡ true → Right s q a → RightIn true s q a
up_right s q a up right = subst (λ (b : Bool). RightIn b s q a) up right

pub quiet_causes : (e : Engine) (rows : List Stored) (s t : SState) (q : Request) (a : Answer) (es : List Effect) → StandsFor e rows s → IsRequest q → HasPaths q → RecordsNone e q a
    → Causes s q a es → Right s q a → Steps s es t → Each IsQuiet es
quiet_causes e rows s t (request.Enlist tx) a es st well lies none is right steps = enlist_quiet s tx a es well is
quiet_causes e rows s t (request.Lock tx p m) a es st well lies none is right steps = lock_quiet s tx.0 (ladder p m) a es (ladder_lies p m lies) is
quiet_causes e rows s t (request.Write tx c) answer.Done es st well lies none is right steps = one_quiet es (written tx.0 c) well.1 is
quiet_causes e rows s t (request.Write tx c) _ es st well lies none is right steps = none_quiet es is
quiet_causes e rows s t (request.Prepare tx) (answer.Vote floor) es st well lies none is right steps = absurd none
quiet_causes e rows s t (request.Prepare tx) (answer.Fault area) es st well lies none is right steps = absurd none
quiet_causes e rows s t (request.Prepare tx) _ es st well lies none is right steps = none_quiet es is
quiet_causes e rows s t (request.Commit tx n) answer.Done es st well lies none is right steps = absurd none
quiet_causes e rows s t (request.Commit tx n) (answer.Fault area) es st well lies none is right steps = absurd none
quiet_causes e rows s t (request.Commit tx n) _ es st well lies none is right steps = none_quiet es is
quiet_causes e rows s t (request.Rollback tx) answer.Done es st well lies none is right steps =
    rollback_quiet s t tx es (none rows s st) (λ floor doubt alive. doubt_dead e rows s tx.0 floor st doubt alive) is steps
quiet_causes e rows s t (request.Rollback tx) (answer.Fault area) es st well lies none is right steps = absurd none
quiet_causes e rows s t (request.Rollback tx) _ es st well lies none is right steps = none_quiet es is
quiet_causes e rows s t request.SyncBegin (answer.Fault area) es st well lies none is right steps = absurd none
quiet_causes e rows s t request.SyncBegin _ es st well lies none is right steps = none_quiet es is
quiet_causes e rows s t request.SyncFlush (answer.Fault area) es st well lies none is right steps = absurd none
quiet_causes e rows s t request.SyncFlush _ es st well lies none is right steps = none_quiet es is
quiet_causes e rows s t request.SyncFinish (answer.Fault area) es st well lies none is right steps = absurd none
quiet_causes e rows s t request.SyncFinish _ es st well lies none is right steps = none_quiet es is
quiet_causes e rows s t request.Stop a es st well lies none is right steps = absurd none
quiet_causes e rows s t request.Start answer.NoMemory es st well lies none is right steps = start_quiet s t answer.NoMemory es st.up tt is steps
quiet_causes e rows s t request.Start a es st well lies none is right steps = start_quiet s t a es st.up (start_right a right) is steps
  where
    start_right : (a : Answer) → Right s request.Start a → UpRight s request.Start a
    start_right answer.NoMemory right = tt
    start_right a right = up_right s request.Start a st.up right
quiet_causes e rows s t _ a es st well lies none is right steps = none_quiet es is

-- ---- such an answer is no fault

loud : (e : Engine) (s : SState) (q : Request) (area : Bool) → RecordsNone e q (answer.Fault area) → UpRight s q (answer.Fault area) → ⊥
loud e s (request.Read tx place) area none right = right.shows
loud e s (request.Scan tx space) area none right = right.shows
loud e s (request.ScanGroup tx space group) area none right = right.shows
loud e s (request.Prepare tx) area none right = none
loud e s (request.Commit tx n) area none right = none
loud e s (request.Rollback tx) area none right = none
loud e s request.SyncBegin area none right = none
loud e s request.SyncFlush area none right = none
loud e s request.SyncFinish area none right = none
loud e s _ area none right = right

damaged : (s : SState) (q : Request) (area : Bool) (place : ℕ) → UpRight s q (answer.Damaged area place) → ⊥
damaged s (request.Read tx p) area place right = right.shows
damaged s (request.Scan tx space) area place right = right.shows
damaged s (request.ScanGroup tx space group) area place right = right.shows
damaged s _ area place right = right

pub quiet_answer : (e : Engine) (s : SState) (q : Request) (a : Answer) → s.up ≡ true → RecordsNone e q a → Right s q a → is_quiet a ≡ true
quiet_answer e s q (answer.Fault area) up none right = absurd (loud e s q area none (up_right s q (answer.Fault area) up right))
quiet_answer e s q (answer.Damaged area place) up none right = absurd (damaged s q area place (up_right s q (answer.Damaged area place) up right))
quiet_answer e s q _ up none right = refl
