use Rattle.hb_planadds.proofs.AddPlan.{add_area_rightly}
use Rattle.hb_planadds.proofs.laws.add_area_does.Goals as goal

pub returns : goal.returns
returns c = add_area_rightly
