use Rattle.hb_plancalc.proofs.Plain.{plan_counts}
use Rattle.hb_plancalc.proofs.laws.plans_count.Goals as goal

pub returns : goal.returns
returns c = plan_counts
