use Rattle.std.proofs.Common.{sym, ◌∙◌}
use Rattle.hb_coord.proofs.Maps.{has_tx, tx_there}
use Rattle.hb_coord.proofs.kept.Ledger.is_active.Goals as goal

pub returns : goal.returns
returns c = λ k reflects. (
  (λ is. has_tx c.args.tx.0 k.active (sym (reflects.active c.args.tx.0) ∙ sym c.contains.ensures ∙ is)),
  (λ active. c.contains.ensures ∙ reflects.active c.args.tx.0 ∙ tx_there c.args.tx.0 k.active active),
)
