use Rattle.hb_runs.specs.Board.{new_board}
use Rattle.hb_node.specs.Laws.{stays}
use Rattle.hb_manager.proofs.manager.Manager.new.Goals as goal

pub returns-clause-explained : goal.returns-clause-explained
returns-clause-explained c = (new_board, stays new_board, c.new.ensures)
