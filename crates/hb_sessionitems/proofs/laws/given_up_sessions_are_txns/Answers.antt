use Rattle.hb_sessionitems.proofs.Txns.{given_up_sessions_txns}
use Rattle.hb_sessionitems.proofs.laws.given_up_sessions_are_txns.Goals as goal

pub returns : goal.returns
returns c = given_up_sessions_txns
