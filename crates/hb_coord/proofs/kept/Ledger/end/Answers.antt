use Rattle.std.proofs.Common.{refl}
use Rattle.hb_coord.proofs.Reflecting.{reflects_ended}
use Rattle.hb_coord.proofs.kept.Ledger.end.Goals as goal

pub returns-clause-ended : goal.returns-clause-ended
returns-clause-ended c = λ k reflects. reflects_ended k c.args.self.now _ c.args.tx.0 reflects refl refl c.remove.ensures.updates
