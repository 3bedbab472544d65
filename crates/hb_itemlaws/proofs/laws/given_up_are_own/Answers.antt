use Rattle.hb_itemlaws.proofs.GivingUp.{given_up_own}
use Rattle.hb_itemlaws.proofs.laws.given_up_are_own.Goals as goal

pub returns : goal.returns
returns c = given_up_own
