use Rattle.hb_lives.proofs.Stretches.{stretches_txns}
use Rattle.hb_lives.proofs.laws.stretches_are_txns.Goals as goal

pub returns : goal.returns
returns c = stretches_txns
