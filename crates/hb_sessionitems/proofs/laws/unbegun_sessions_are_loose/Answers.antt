use Rattle.hb_sessionitems.proofs.Txns.{unbegun_sessions_loose}
use Rattle.hb_sessionitems.proofs.laws.unbegun_sessions_are_loose.Goals as goal

pub returns : goal.returns
returns c = unbegun_sessions_loose
