use Rattle.hb_planareas.proofs.AreaPlan.{create_area_rightly}
use Rattle.hb_planareas.proofs.laws.create_area_does.Goals as goal

pub returns : goal.returns
returns c = create_area_rightly
