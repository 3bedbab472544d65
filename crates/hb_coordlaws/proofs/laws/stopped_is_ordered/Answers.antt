use Rattle.hb_coordlaws.proofs.Orderly.{stopped_is_ordered as holds}
use Rattle.hb_coordlaws.proofs.laws.stopped_is_ordered.Goals as goal

pub returns : goal.returns
returns c = holds
