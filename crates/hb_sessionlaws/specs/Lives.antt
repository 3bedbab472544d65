-- The calls of a session over its transactions obey the callers' law.
use Rattle.std.specs.Prelude.{◌≡◌, ◌+◌, ◌<◌, ◌^◌, true, false, List, [], ◌∷◌, ◌++◌}
use Rattle.hb_types.specs.declared.answer.Answer.{Answer}
use Rattle.hb_types.specs.declared.trail.Call.{Call}
use Rattle.hb_types.specs.Lists.{Each}
use Rattle.hb_node.specs.Lists.{Lists, OneMore}
use Rattle.hb_model.specs.declared.statement.Statement.{Statement}
use Rattle.hb_law.specs.Callers.{ObeysFrom, begun_count}
use Rattle.hb_wait.specs.Waiting.{node_asked, request_asked}
use Rattle.hb_wait.specs.declared.pending.Pending.{Pending}
use Rattle.hb_session.specs.declared.session.Progress.{Progress}
use Rattle.hb_session.specs.Runs.{call_of}
use Rattle.hb_session.specs.Sitting.{Sitting, IsWithin, in_transaction, is_busy, is_ending, is_refused, is_waiting, stands}
use Rattle.hb_session.specs.Steps.{Abandons, Closes, Gives, Leads, LeavesAs, Makes, OpensAt, SameSession, Stepped}
use Rattle.hb_obeys.specs.Obeying.{IsOfSystem}

-- what a session keeps, with room in its count of transactions
pub record IsKept (s : Sitting) : Type 0 where
  pub within : IsWithin s.stage
  pub room : s.begun + 1 < 2 ^ 64

-- One request was asked, and answered in any way; the session may have found no memory.
pub record Asked (old new : Sitting) (p : Pending) (a : Answer) (shows : Progress) : Type 0 where
  pub same : SameSession old new
  pub leaves : LeavesAs shows new.stage
  pub makes : Makes old new p a shows

-- a refusal that stood was shown
pub record Showed (old new : Sitting) (shows : Progress) : Type 0 where
  pub refused : is_refused old.stage ≡ true
  pub same : SameSession old new
  pub leaves : LeavesAs shows new.stage
  pub begun : new.begun ≡ old.begun
  pub leads : Leads (stands old) new shows
  pub opens : OpensAt old.stage new.stage

-- a statement that waited was given up
pub record Abandoned (old new : Sitting) : Type 0 where
  pub waiting : is_waiting old.stage ≡ true
  pub same : SameSession old new
  pub begun : new.begun ≡ old.begun
  pub ending : is_ending new.stage ≡ true
  pub abandons : Abandons old.stage new

-- a transaction between two statements was given up
pub record Closed (old new : Sitting) : Type 0 where
  pub same : SameSession old new
  pub begun : new.begun ≡ old.begun
  pub ending : is_ending new.stage ≡ true
  pub closes : Closes old.stage new

-- from one sitting to another, through any number of transactions: the calls
pub data Sits : Sitting → List Call → Sitting → Type 0 where
  stays : {s : Sitting} → Sits s [] s
  gives : {s m e : Sitting} {st : Statement} {cs : List Call} → IsKept m → is_busy s.stage ≡ false → Gives s m st → Sits m cs e → Sits s cs e
  asks : {s m e : Sitting} {cs : List Call} → (p : Pending) (a : Answer) (shows : Progress) → IsKept m → Asked s m p a shows → Sits m cs e → Sits s (call_of p a ∷ cs) e
  refuses : {s m e : Sitting} {cs : List Call} → (shows : Progress) → IsKept m → Showed s m shows → Sits m cs e → Sits s cs e
  abandons : {s m e : Sitting} {cs : List Call} → IsKept m → Abandoned s m → Sits m cs e → Sits s cs e
  closes : {s m e : Sitting} {cs : List Call} → IsKept m → Closed s m → Sits m cs e → Sits s cs e

-- From where there is no transaction all that a session asks obeys, transaction after transaction, and it counts those that begun.
abbrev pub LivesObey : Type 0
LivesObey =
    (old new : Sitting) (front calls : List Call) → IsKept old → in_transaction old.stage ≡ false → old.begun ≡ begun_count front → Sits old calls new
    → Each IsOfSystem calls → ObeysFrom old.index front calls × (new.begun ≡ begun_count (front ++ calls))

-- a step of a session is one of its life: a refusal is shown with no call, or one call is added to those of the nodes
abbrev pub StepSits : Sitting → Sitting → Lists → Lists → Type 0
StepSits old new before after =
    (is_refused old.stage ≡ true → Sits old [] new)
    × (is_refused old.stage ≡ false → (p : Pending) × (a : Answer) × OneMore before after (node_asked p) (request_asked p) a × Sits old (call_of p a ∷ []) new)

-- So it is with each step, whatever is answered.
abbrev pub StepsSit : Type 0
StepsSit = (old new : Sitting) (before after : Lists) (shows : Progress) → Stepped old new before after shows → IsKept new → StepSits old new before after
