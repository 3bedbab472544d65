use Rattle.hb_disks.proofs.Fold.{redo-more}
use Rattle.hb_disks.proofs.laws.redo_grows.Goals as goal

pub returns : goal.returns
returns c = redo-more
