use Rattle.hb_itemlaws.proofs.Showing.{unbegun_loose}
use Rattle.hb_itemlaws.proofs.laws.unbegun_are_loose.Goals as goal

pub returns : goal.returns
returns c = unbegun_loose
