use Rattle.std.proofs.Common.{◌+◌, take, false}
use Rattle.hb_board.specs.Searches.{Finds}
use Rattle.hb_board.proofs.board.Board.+search.Given as goal

abbrev pub decreases-find_way : goal.decreases-find_way
decreases-find_way l = l.depth + l.depth + 1

abbrev pub decreases-leads : goal.decreases-leads
decreases-leads l = l.depth + l.depth

abbrev pub invariant-find_way-loop-edge : goal.invariant-find_way-loop-edge
invariant-find_way-loop-edge l = Finds l.self (take l.edge-index l.edges) l.initial.search l.search false
