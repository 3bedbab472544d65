use Rattle.hb_itemlaws.proofs.Kept.{closed_txns_right}
use Rattle.hb_itemlaws.proofs.laws.closed_txns_are_right.Goals as goal

pub returns : goal.returns
returns c = closed_txns_right
