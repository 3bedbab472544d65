use Rattle.hb_serverlaws.proofs.Rooming.{room_is_kept as holds}
use Rattle.hb_serverlaws.proofs.laws.room_is_kept.Goals as goal

pub returns : goal.returns
returns c = holds
