use Rattle.hb_board.proofs.Asking.{steps_exact}
use Rattle.hb_board.proofs.laws.cycles_are_exact.Goals as goal

pub returns : goal.returns
returns c = steps_exact
