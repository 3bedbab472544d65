use Rattle.std.proofs.Common.{◌≡◌, take}
use Rattle.hb_board.specs.Waiting.{edges_now}
use Rattle.hb_board.proofs.board.Board.edges_of.Given as goal

abbrev pub invariant-loop-holder : goal.invariant-loop-holder
invariant-loop-holder l = l.edges ≡ edges_now l.self.known l.tx l.node l.path l.wanted (take l.holder-index l.holders)
