use Rattle.hb_laws.proofs.GroupLaws.{group-below}
use Rattle.hb_laws.proofs.groups.each_group_is_below.Goals as goal

pub returns : goal.returns
returns c = group-below
