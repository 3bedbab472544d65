use Rattle.hb_lives.proofs.Joining.{lists_told}
use Rattle.hb_lives.proofs.laws.lists_are_told.Goals as goal

pub returns : goal.returns
returns c = lists_told
