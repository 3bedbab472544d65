use Rattle.hb_itemlaws.proofs.Dividing.{transactions_right}
use Rattle.hb_itemlaws.proofs.laws.transactions_are_right.Goals as goal

pub returns : goal.returns
returns c = transactions_right
