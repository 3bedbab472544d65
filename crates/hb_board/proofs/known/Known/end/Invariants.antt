use Rattle.std.proofs.Common.{◌≡◌, ◌<◌, ◌≤◌, ℕ, true, length}
use Rattle.std.specs.Prelude.{◌&&◌}
use Rattle.hb_model.specs.NodeSets.{has_node}
use Rattle.hb_board.specs.Shows.{is_open}
use Rattle.hb_board.proofs.known.Known.end.Given as goal

abbrev pub invariant-loop-node : goal.invariant-loop-node
invariant-loop-node l = record {
  owner : l.self.owner ≡ l.initial.self.owner;
  ended : l.self.ended ≡ true;
  size : length l.self.unsettled ≡ length l.initial.self.unsettled;
  done : (n : ℕ) → n < l.node → is_open l.self n ≡ (is_open l.initial.self n && has_node l.left.0 n);
  rest : (n : ℕ) → l.node ≤ n → is_open l.self n ≡ is_open l.initial.self n;
}
