use Rattle.hb_readlaws.proofs.Ordered.{groups_are_ordered as holds}
use Rattle.hb_readlaws.proofs.laws.groups_are_ordered.Goals as goal

pub returns : goal.returns
returns c = holds
