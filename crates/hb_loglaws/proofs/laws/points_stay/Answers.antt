use Rattle.hb_loglaws.proofs.Settling.{points_stay as holds}
use Rattle.hb_loglaws.proofs.laws.points_stay.Goals as goal

pub returns : goal.returns
returns c = holds
