use Rattle.hb_disks.proofs.Empty.{empty_stands}
use Rattle.hb_disks.proofs.laws.empty_disks_stand.Goals as goal

pub returns : goal.returns
returns c = empty_stands
