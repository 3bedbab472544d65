use Rattle.hb_readlaws.proofs.Cleaning.{spaces_are_clean as holds}
use Rattle.hb_readlaws.proofs.laws.spaces_are_clean.Goals as goal

pub returns : goal.returns
returns c = holds
