use Rattle.hb_itemlaws.proofs.GivingUp.{closed_own}
use Rattle.hb_itemlaws.proofs.laws.closed_are_own.Goals as goal

pub returns : goal.returns
returns c = closed_own
