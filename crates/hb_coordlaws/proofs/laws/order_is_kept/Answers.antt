use Rattle.hb_coordlaws.proofs.Orderly.{order_is_kept as holds}
use Rattle.hb_coordlaws.proofs.laws.order_is_kept.Goals as goal

pub returns : goal.returns
returns c = holds
