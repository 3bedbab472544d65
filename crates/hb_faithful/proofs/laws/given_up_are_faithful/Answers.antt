use Rattle.hb_faithful.proofs.Faithfuls.{given_up_faithful}
use Rattle.hb_faithful.proofs.laws.given_up_are_faithful.Goals as goal

pub returns : goal.returns
returns c = given_up_faithful
