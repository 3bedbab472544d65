-- Where the rows of a plan come from, over answers as a system's servers give them.
use Rattle.std.specs.Prelude.{ℕ, false, List, Result}
use Rattle.hb_types.specs.declared.trail.Call.{Call}
use Rattle.hb_model.specs.declared.reply.Reply.{Reply}
use Rattle.hb_model.specs.declared.statement.Statement.{Statement}
use Rattle.hb_model.specs.Asked.{AreWhereAsked}
use Rattle.hb_model.specs.Sources.{Sourced}
use Rattle.hb_talk.specs.PlansDefine.{plan}
use Rattle.hb_talk.specs.Talk.{Follows, Use}
use Rattle.hb_plancalc.specs.Counted.{reply_in}

-- Whatever its answers, as long as scanned rows lie where they were asked for, this statement's plan shows and writes rows that come
-- from its answers.
abbrev pub PlanIsSourced : Statement → Type 0
PlanIsSourced st =
    (back_ends : ℕ) (u v : Use) (calls : List Call) (r : Result Reply Reply) → Follows false (plan back_ends st u) calls (r, v)
    → AreWhereAsked calls → Sourced st calls (reply_in r)
