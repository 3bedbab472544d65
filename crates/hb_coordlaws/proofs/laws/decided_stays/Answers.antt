use Rattle.hb_coordlaws.proofs.Final.{decided_stays as holds}
use Rattle.hb_coordlaws.proofs.laws.decided_stays.Goals as goal

pub returns : goal.returns
returns c = holds
