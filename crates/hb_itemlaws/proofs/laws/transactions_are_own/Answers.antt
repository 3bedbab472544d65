use Rattle.hb_itemlaws.proofs.OwnItems.{transactions_own}
use Rattle.hb_itemlaws.proofs.laws.transactions_are_own.Goals as goal

pub returns : goal.returns
returns c = transactions_own
