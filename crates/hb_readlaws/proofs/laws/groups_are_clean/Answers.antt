use Rattle.hb_readlaws.proofs.Cleaning.{groups_are_clean as holds}
use Rattle.hb_readlaws.proofs.laws.groups_are_clean.Goals as goal

pub returns : goal.returns
returns c = holds
