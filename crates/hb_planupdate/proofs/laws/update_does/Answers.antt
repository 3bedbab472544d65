use Rattle.hb_planupdate.proofs.UpdatePlan.{update_rightly}
use Rattle.hb_planupdate.proofs.laws.update_does.Goals as goal

pub returns : goal.returns
returns c = update_rightly
