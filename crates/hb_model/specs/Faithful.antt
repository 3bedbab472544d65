-- When the calls and the reply of a statement are faithful to what the statement does.
use Rattle.std.specs.Prelude.{◌≡◌, ℕ, ◌+◌, ◌≤◌, ◌<◌, Bool, true, false, IsTrue, not, List}
use Rattle.hb_types.specs.declared.trail.Call.{Call}
use Rattle.hb_model.specs.declared.reply.Reply.{Reply}
use Rattle.hb_model.specs.declared.statement.Statement.{Statement}
use Rattle.hb_model.specs.Asked.{AreWhereAsked}
use Rattle.hb_model.specs.Answers.{AnswersOf, afters, bytes_in, grants_in, HasAsked, is_decide, is_undoing}
use Rattle.hb_model.specs.Does.{does, effect, is_accepted}
use Rattle.hb_model.specs.Families.{Family}
use Rattle.hb_model.specs.Items.{Spent}
use Rattle.hb_model.specs.Locking.{LocksByTable}
use Rattle.hb_model.specs.Needs.{locks_of, most_locks}
use Rattle.hb_model.specs.Outside.{is_outside, says_undone}
use Rattle.hb_model.specs.Sources.{Sourced}
use Rattle.hb_model.specs.State.{State}
use Rattle.hb_model.specs.System.{Sys}

-- Over these rows of this state the calls and the reply are what the statement does. It was granted the locks of its whole
-- plan where it was accepted; TOO MUCH for locks comes only where the plan would pass the limit.
pub record Did (back_ends : ℕ) (spent : Spent) (full : Bool) (st : Statement) (calls : List Call) (r : Reply) (family : Family) (s : State) : Type 0 where
  pub replied : (does back_ends s spent.bytes full st).reply ≡ r
  pub left : Sys back_ends (afters family calls) (does back_ends s spent.bytes full st).state
  pub wrote : bytes_in calls ≡ (does back_ends s spent.bytes full st).bytes
  pub few_locks : grants_in calls ≤ locks_of s st
  pub all_locks : full ≡ false → IsTrue (is_accepted spent.bytes (effect back_ends s st)) → grants_in calls ≡ locks_of s st
  pub full_rightly : full ≡ true → most_locks < spent.locks + locks_of s st
  pub within : spent.locks + grants_in calls ≤ most_locks

-- whatever rows of a system the answers are those of
abbrev pub DoesRightly : ℕ → Spent → Bool → Statement → List Call → Reply → Type 0
DoesRightly back_ends spent full st calls r =
    (family : Family) (s : State) → Sys back_ends family s → AnswersOf family calls → Did back_ends spent full st calls r family s

-- A statement's calls and reply are faithful: it decides nothing; it does what the statement does, unless its reply is an
-- outside one; where it says that the transaction was rolled back, it asked for that; its locks are in the table of locks;
-- and its rows come from those that it was answered. The last two are said of answers as a system's servers give them.
pub record Faithful (back_ends : ℕ) (spent : Spent) (full : Bool) (st : Statement) (calls : List Call) (r : Reply) : Type 0 where
  pub undecided : ¬ (HasAsked is_decide calls)
  pub does_rightly : IsTrue (not (is_outside r)) → DoesRightly back_ends spent full st calls r
  pub undone : IsTrue (says_undone r) → HasAsked is_undoing calls
  pub locks : AreWhereAsked calls → LocksByTable st calls
  pub sourced : AreWhereAsked calls → Sourced st calls r
