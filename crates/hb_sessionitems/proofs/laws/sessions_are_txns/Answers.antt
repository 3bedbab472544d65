use Rattle.hb_sessionitems.proofs.Txns.{sessions_txns}
use Rattle.hb_sessionitems.proofs.laws.sessions_are_txns.Goals as goal

pub returns : goal.returns
returns c = sessions_txns
