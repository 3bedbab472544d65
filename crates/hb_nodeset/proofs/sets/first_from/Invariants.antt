use Rattle.std.proofs.Common.{◌+◌, ◌-◌, ◌≡◌, ◌≤◌}
use Rattle.hb_nodeset.specs.NodesFrom.{nodes_from}
use Rattle.hb_nodeset.proofs.sets.first_from.Given as goal

abbrev pub invariant-loop-node : goal.invariant-loop-node
invariant-loop-node l = (l.fn.from ≤ l.node) × (nodes_from l.fn.set.0 l.fn.from ≡ nodes_from l.fn.set.0 l.node)

abbrev pub decreases-loop-node : goal.decreases-loop-node
decreases-loop-node l = 10 + 1 - l.node
