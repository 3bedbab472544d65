use Rattle.hb_sessionitems.proofs.Txns.{closed_sessions_txns}
use Rattle.hb_sessionitems.proofs.laws.closed_sessions_are_txns.Goals as goal

pub returns : goal.returns
returns c = closed_sessions_txns
