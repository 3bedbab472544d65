use Rattle.hb_itemlaws.proofs.Naming.{transactions_name}
use Rattle.hb_itemlaws.proofs.laws.transactions_name_owner.Goals as goal

pub returns : goal.returns
returns c = transactions_name
