use Rattle.hb_itemlaws.proofs.GivingUp.{closed_right}
use Rattle.hb_itemlaws.proofs.laws.closed_are_right.Goals as goal

pub returns : goal.returns
returns c = closed_right
