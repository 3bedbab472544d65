use Rattle.hb_itemlaws.proofs.Kept.{txns_right}
use Rattle.hb_itemlaws.proofs.laws.txns_are_right.Goals as goal

pub returns : goal.returns
returns c = txns_right
