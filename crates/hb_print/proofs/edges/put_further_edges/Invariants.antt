use Rattle.std.proofs.Common.{◌≡◌, ◌++◌, drop}
use Rattle.hb_print.specs.Places.{further_edges}
use Rattle.hb_print.proofs.edges.put_further_edges.Given as goal

abbrev pub invariant-loop-edge : goal.invariant-loop-edge
invariant-loop-edge l = l.out.items ++ further_edges l.names (drop l.edge-index l.edges) ≡ l.fn.out.items ++ further_edges l.names l.edges
