use Rattle.hb_coordlaws.proofs.Final.{aborted_stays as holds}
use Rattle.hb_coordlaws.proofs.laws.aborted_stays.Goals as goal

pub returns : goal.returns
returns c = holds
