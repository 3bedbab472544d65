use Rattle.hb_sessionitems.proofs.Ending.{given_up_sessions_right}
use Rattle.hb_sessionitems.proofs.laws.given_up_sessions_are_right.Goals as goal

pub returns : goal.returns
returns c = given_up_sessions_right
