-- What a plan counts, whatever its answers.
use Rattle.std.specs.Prelude.{◌≡◌, ℕ, ◌≤◌, false, IsTrue, not, List, Result, Ok, Err}
use Rattle.hb_types.specs.declared.trail.Call.{Call}
use Rattle.hb_model.specs.declared.reply.Reply.{Reply}
use Rattle.hb_model.specs.declared.statement.Statement.{Statement}
use Rattle.hb_model.specs.Answers.{HasAsked, is_decide}
use Rattle.hb_model.specs.Does.{most_bytes}
use Rattle.hb_model.specs.Items.{Spent, spending}
use Rattle.hb_model.specs.Needs.{most_locks}
use Rattle.hb_model.specs.Outside.{is_outside}
use Rattle.hb_talk.specs.PlansDefine.{plan}
use Rattle.hb_talk.specs.Talk.{Follows, Use}

-- the reply that a session shows, a refusal or not
abbrev pub reply_in : Result Reply Reply → Reply
reply_in (Ok r) = r
reply_in (Err r) = r

-- what a transaction has spent, as its session counts it
abbrev pub spent_of : Use → Spent
spent_of u = record { bytes = u.bytes; locks = u.locks }

-- the counts are within the limits of a transaction
pub record IsWithin (u : Use) : Type 0 where
  pub locks : u.locks ≤ most_locks
  pub bytes : u.bytes ≤ most_bytes

-- Whatever its answers, this statement's plan decides nothing, and unless its reply is an outside one its use counts what was spent,
-- within the limits.
abbrev pub PlanCounts : Statement → Type 0
PlanCounts st =
    (back_ends : ℕ) (u v : Use) (calls : List Call) (r : Result Reply Reply) → IsWithin u → Follows false (plan back_ends st u) calls (r, v)
    → ¬ (HasAsked is_decide calls) × (IsTrue (not (is_outside (reply_in r))) → IsWithin v × (spent_of v ≡ spending (spent_of u) calls))
