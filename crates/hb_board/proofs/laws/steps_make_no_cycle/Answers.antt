use Rattle.hb_board.proofs.Asking.{steps_keep}
use Rattle.hb_board.proofs.laws.steps_make_no_cycle.Goals as goal

pub returns : goal.returns
returns c = steps_keep
