use Rattle.hb_lives.proofs.Unfinished.{unfinished_right}
use Rattle.hb_lives.proofs.laws.unfinished_are_right.Goals as goal

pub returns : goal.returns
returns c = unfinished_right
