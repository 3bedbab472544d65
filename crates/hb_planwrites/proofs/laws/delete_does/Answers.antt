use Rattle.hb_planwrites.proofs.DeletePlan.{delete_rightly}
use Rattle.hb_planwrites.proofs.laws.delete_does.Goals as goal

pub returns : goal.returns
returns c = delete_rightly
