use Rattle.hb_itemlaws.proofs.OwnItems.{unbegun_nothing}
use Rattle.hb_itemlaws.proofs.laws.unbegun_ask_nothing.Goals as goal

pub returns : goal.returns
returns c = unbegun_nothing
