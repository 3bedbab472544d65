use Rattle.hb_serverlaws.proofs.Running.{log_is_kept as holds}
use Rattle.hb_serverlaws.proofs.laws.log_is_kept.Goals as goal

pub returns : goal.returns
returns c = holds
