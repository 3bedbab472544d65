use Rattle.std.proofs.Common.{◌≡◌, take, true}
use Rattle.std.specs.List.{list_all}
use Rattle.hb_board.specs.Waiting.{is_known_in}
use Rattle.hb_board.proofs.board.Board.can_wait.Given as goal

abbrev pub invariant-loop-holder : goal.invariant-loop-holder
invariant-loop-holder l = list_all (λ h. is_known_in l.self.known h.tx) (take l.holder-index l.holders) ≡ true
