use Rattle.std.specs.Prelude.{[]}
use Rattle.hb_disks.proofs.Fold.{LogOK-of}
use Rattle.hb_disks.proofs.laws.right_halves.Goals as goal

pub returns : goal.returns
returns c = LogOK-of []
