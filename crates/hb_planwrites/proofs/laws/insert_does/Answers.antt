use Rattle.hb_planwrites.proofs.InsertPlan.{insert_rightly}
use Rattle.hb_planwrites.proofs.laws.insert_does.Goals as goal

pub returns : goal.returns
returns c = insert_rightly
