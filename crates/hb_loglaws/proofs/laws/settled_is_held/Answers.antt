use Rattle.hb_loglaws.proofs.Settling.{settled_is_held as holds}
use Rattle.hb_loglaws.proofs.laws.settled_is_held.Goals as goal

pub returns : goal.returns
returns c = holds
