use Rattle.hb_sessionitems.proofs.Ending.{closed_sessions_right}
use Rattle.hb_sessionitems.proofs.laws.closed_sessions_are_right.Goals as goal

pub returns : goal.returns
returns c = closed_sessions_right
