use Rattle.std.proofs.Common.{refl}
use Rattle.hb_planquery.proofs.Steps.{begins}
use Rattle.hb_planquery.proofs.query_plan.QueryPlan.begin.Goals as goal

pub returns-clause-talk : goal.returns-clause-talk
returns-clause-talk c = begins _ _ _ _ c.lock.result refl c.lock.ensures.talk
