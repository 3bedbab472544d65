use Rattle.hb_faithful.proofs.Faithfuls.{unfinished_right}
use Rattle.hb_faithful.proofs.laws.unfinished_are_right.Goals as goal

pub returns : goal.returns
returns c = unfinished_right
