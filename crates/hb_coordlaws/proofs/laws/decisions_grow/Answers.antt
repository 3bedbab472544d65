use Rattle.hb_coordlaws.proofs.Ascents.{decisions_grow as holds}
use Rattle.hb_coordlaws.proofs.laws.decisions_grow.Goals as goal

pub returns : goal.returns
returns c = holds
