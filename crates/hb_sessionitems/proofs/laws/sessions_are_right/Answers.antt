use Rattle.hb_sessionitems.proofs.Sessions.{sessions_right}
use Rattle.hb_sessionitems.proofs.laws.sessions_are_right.Goals as goal

pub returns : goal.returns
returns c = sessions_right
