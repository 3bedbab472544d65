use Rattle.hb_serverlaws.proofs.Running.{now_is_redo as holds}
use Rattle.hb_serverlaws.proofs.laws.now_is_redo.Goals as goal

pub returns : goal.returns
returns c = holds
