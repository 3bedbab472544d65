use Rattle.hb_disks.proofs.Fold.{held-more}
use Rattle.hb_disks.proofs.laws.held_grows.Goals as goal

pub returns : goal.returns
returns c = held-more
