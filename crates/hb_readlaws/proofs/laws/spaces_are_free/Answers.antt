use Rattle.hb_readlaws.proofs.Cleaning.{spaces_are_free as holds}
use Rattle.hb_readlaws.proofs.laws.spaces_are_free.Goals as goal

pub returns : goal.returns
returns c = holds
