use Rattle.hb_readlaws.proofs.Ordered.{spaces_are_ordered as holds}
use Rattle.hb_readlaws.proofs.laws.spaces_are_ordered.Goals as goal

pub returns : goal.returns
returns c = holds
