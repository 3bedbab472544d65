use Rattle.hb_coordlaws.proofs.Asking.{decided_were_given as holds}
use Rattle.hb_coordlaws.proofs.laws.decided_were_given.Goals as goal

pub returns : goal.returns
returns c = holds
