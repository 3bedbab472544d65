-- The items of a session's transaction that is given up.
use Rattle.std.specs.Prelude.{◌≡◌, ℕ, ◌≤◌, true, false, IsTrue, List, [], ◌∷◌, ◌++◌, ⊤}
use Rattle.hb_types.specs.declared.answer.Answer.{Answer}
use Rattle.hb_types.specs.declared.trail.Call.{Call}
use Rattle.hb_types.specs.Lists.{Each}
use Rattle.hb_model.specs.declared.reply.Reply.{Reply}
use Rattle.hb_model.specs.declared.reply.Reply.TheVariants as reply
use Rattle.hb_model.specs.declared.statement.Statement.{Statement}
use Rattle.hb_model.specs.Plain.{is_plain}
use Rattle.hb_wait.specs.Courses.{IsExpected}
use Rattle.hb_wait.specs.declared.pending.Pending.{Pending}
use Rattle.hb_session.specs.declared.session.Progress.TheVariants as progress
use Rattle.hb_session.specs.declared.stage.Stage.TheVariants as stage
use Rattle.hb_session.specs.Runs.{Asks, Runs, call_of, stays, gives, asks, refuses}
use Rattle.hb_session.specs.Sitting.{Sitting, is_busy, is_refused, is_waiting}
use Rattle.hb_session.specs.Steps.{Abandons, Closes, Makes, OpensAt, RunsOutAt}
use Rattle.hb_planlaws.specs.Planned.{most_back_ends}
use Rattle.hb_itemlaws.specs.Dividing.{Divided, Given, statements}
use Rattle.hb_itemlaws.specs.GivingUp.{Closed}

-- ---- how it comes

-- each statement is given while none is in progress, and a refusal is shown where one stands
abbrev pub InTurn : {old new : Sitting} {given : List Statement} {calls : List Call} {replies : List Reply} → Runs old given calls replies new → Type 0
InTurn stays = ⊤
InTurn (gives {s = s} g more) = (is_busy s.stage ≡ false) × InTurn more
InTurn (asks p a shows h goes more) = InTurn more
InTurn (refuses {s = s} {m = m} shows leaves to goes more) = (is_refused s.stage ≡ true) × OpensAt s.stage m.stage × InTurn more

-- One request was asked, its node answered as it may, and then the session found no memory.
pub record RanOut (old new : Sitting) (p : Pending) (a : Answer) : Type 0 where
  pub makes : Makes old new p a progress.More
  pub out : RunsOutAt old.stage new progress.More
  pub expected : IsExpected p a

-- a statement is given up: it waits and is abandoned, or its session finds no memory; with the call of that, and the reply
pub data GivesUp (old new : Sitting) : List Call → Reply → Type 0 where
  abandons : is_waiting old.stage ≡ true → Abandons old.stage new → GivesUp old new [] reply.RolledBackEnd
  runs_out : (p : Pending) (a : Answer) → RanOut old new p a → GivesUp old new (call_of p a ∷ []) reply.NoMemory

-- from there to the end of the transaction: the calls, and the reply that is shown
pub record RunsToEnd (old : Sitting) (calls : List Call) (r : Reply) : Type 0 where
  pub last : Sitting
  pub over : Sitting
  pub before : List Call
  pub pending : Pending
  pub answer : Answer
  pub runs : Runs old [] before [] last
  pub ends : Asks last over pending answer (progress.Ended r)
  pub parts : calls ≡ before ++ call_of pending answer ∷ []

-- ---- the laws

-- From where there is no transaction to a statement that is given up, and on to the end of the rolling back, what a session asks and
-- shows for plain statements is divided into right items: the last one is of the statement that was given up.
abbrev pub GivenUpSessionsAreRight : Type 0
GivenUpSessionsAreRight =
    (old last new : Sitting) (work : Given) (works : List Given) (calls asked rolled : List Call) (replies : List Reply) (why r : Reply) → old.back_ends ≤ most_back_ends
    → Each (λ w. IsTrue (is_plain w.1)) (work ∷ works) → old.stage ≡ stage.Idle → (runs : Runs old (statements (work ∷ works)) calls replies last) → InTurn runs
    → GivesUp last new asked why → RunsToEnd new rolled r
    → Divided old.back_ends (work ∷ works) (calls ++ (asked ++ rolled)) (replies ++ r ∷ [])

-- Given up between two statements, the rolling back is an item of no statement, behind those of the statements.
abbrev pub ClosedSessionsAreRight : Type 0
ClosedSessionsAreRight =
    (old last new : Sitting) (work : Given) (works : List Given) (calls rolled : List Call) (replies : List Reply) (r : Reply) (place : ℕ) → old.back_ends ≤ most_back_ends
    → Each (λ w. IsTrue (is_plain w.1)) (work ∷ works) → old.stage ≡ stage.Idle → (runs : Runs old (statements (work ∷ works)) calls replies last) → InTurn runs
    → Closes last.stage new → RunsToEnd new rolled r → Closed old.back_ends place (work ∷ works) (calls ++ rolled) replies r
