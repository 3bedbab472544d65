use Rattle.hb_itemlaws.proofs.GivingUp.{given_up_right}
use Rattle.hb_itemlaws.proofs.laws.given_up_are_right.Goals as goal

pub returns : goal.returns
returns c = given_up_right
