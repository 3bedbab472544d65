use Rattle.hb_plansources.proofs.AllSources.{plan_is_sourced}
use Rattle.hb_plansources.proofs.laws.plans_are_sourced.Goals as goal

pub returns : goal.returns
returns c = plan_is_sourced
