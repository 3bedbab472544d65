use Rattle.std.proofs.Common.{◌≡◌, take, None}
use Rattle.std.specs.Prelude.{find}
use Rattle.hb_board.specs.Shows.{is_live_in}
use Rattle.hb_board.proofs.registry.first_live_of.Given as goal

abbrev pub invariant-loop-edge : goal.invariant-loop-edge
invariant-loop-edge l = find (is_live_in l.known) (take l.edge-index l.edges) ≡ None
