use Rattle.hb_itemlaws.proofs.Naming.{given_up_name}
use Rattle.hb_itemlaws.proofs.laws.given_up_name_owner.Goals as goal

pub returns : goal.returns
returns c = given_up_name
