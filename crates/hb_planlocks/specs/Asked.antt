-- The locks of a plan whose answers give rows that lie where they were asked for.
use Rattle.std.specs.Prelude.{ℕ, false, List, Result}
use Rattle.hb_types.specs.declared.trail.Call.{Call}
use Rattle.hb_model.specs.declared.reply.Reply.{Reply}
use Rattle.hb_model.specs.declared.statement.Statement.{Statement}
use Rattle.hb_model.specs.Asked.{AreWhereAsked}
use Rattle.hb_model.specs.Locking.{LocksByTable}
use Rattle.hb_talk.specs.PlansDefine.{plan}
use Rattle.hb_talk.specs.Talk.{Follows, Use}

-- Whatever its answers, as long as scanned rows lie where they were asked for, this statement's plan asks for locks in the table of
-- locks alone.
abbrev pub PlanLocksByTable : Statement → Type 0
PlanLocksByTable st =
    (back_ends : ℕ) (u v : Use) (calls : List Call) (r : Result Reply Reply) → Follows false (plan back_ends st u) calls (r, v) → AreWhereAsked calls
    → LocksByTable st calls
