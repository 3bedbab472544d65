use Rattle.hb_serverlaws.proofs.Standing.{locks_are_kept as holds}
use Rattle.hb_serverlaws.proofs.laws.locks_are_kept.Goals as goal

pub returns : goal.returns
returns c = holds
