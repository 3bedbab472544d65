use Rattle.hb_planlaws.proofs.SelectPlan.{select_rightly}
use Rattle.hb_planlaws.proofs.laws.select_by_key_does.Goals as goal

pub returns : goal.returns
returns c = select_rightly
