-- When the calls that follow a statement's plan do what the statement does.
use Rattle.std.specs.Prelude.{◌≡◌, ℕ, ◌≤◌, Bool, false, IsTrue, not, List, Option, Some, IsSome, Result}
use Rattle.hb_types.specs.declared.trail.Call.{Call}
use Rattle.hb_model.specs.declared.reply.Reply.{Reply}
use Rattle.hb_model.specs.declared.statement.Statement.{Statement}
use Rattle.hb_model.specs.Answers.{AnswersOf}
use Rattle.hb_model.specs.Faithful.{Did, DoesRightly}
use Rattle.hb_model.specs.Families.{Family}
use Rattle.hb_model.specs.Outside.{is_outside}
use Rattle.hb_model.specs.Rows.{point}
use Rattle.hb_model.specs.State.{State, table_named}
use Rattle.hb_model.specs.System.{Sys}
use Rattle.hb_model.specs.declared.condition.Pred.{Pred}
use Rattle.hb_model.specs.declared.table.Table.{Table}
use Rattle.hb_talk.specs.PlansDefine.{plan}
use Rattle.hb_talk.specs.Talk.{Follows, Use}
use Rattle.hb_plancalc.specs.Counted.{IsWithin, reply_in, spent_of}

-- the most back ends of a system
abbrev pub most_back_ends : ℕ
most_back_ends = 8

-- From any use within the limits, calls that follow the plan of this statement do what it does, whatever rows of a system their
-- answers are those of, unless the reply is an outside one.
abbrev pub PlanDoes : Statement → Type 0
PlanDoes st =
    (back_ends : ℕ) (u v : Use) (calls : List Call) (r : Result Reply Reply) → back_ends ≤ most_back_ends → IsWithin u
    → Follows false (plan back_ends st u) calls (r, v) → IsTrue (not (is_outside (reply_in r)))
    → (full : Bool) × DoesRightly back_ends (spent_of u) full st calls (reply_in r)

-- the same of the states that this holds of
abbrev pub PlanDoesWhere : (State → Type 0) → Statement → Type 0
PlanDoesWhere P st =
    (back_ends : ℕ) (u v : Use) (calls : List Call) (r : Result Reply Reply) → back_ends ≤ most_back_ends → IsWithin u
    → Follows false (plan back_ends st u) calls (r, v) → IsTrue (not (is_outside (reply_in r)))
    → (full : Bool) × ((family : Family) (s : State) → P s → Sys back_ends family s → AnswersOf family calls → Did back_ends (spent_of u) full st calls (reply_in r) family s)

-- a condition asks for one key of the table of this name, if it is there
abbrev pub IsByKey : List ℕ → Option Pred → State → Type 0
IsByKey name pred s = (t : Table) → table_named s name ≡ Some t → IsSome (point t pred)
