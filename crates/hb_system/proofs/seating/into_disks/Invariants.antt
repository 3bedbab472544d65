use Rattle.std.proofs.Common.{◌*◌, ◌+◌, ◌≤◌, ◌++◌, List, vec_len, vec_capacity}
use Rattle.hb_system.specs.Giving.{Gives}
use Rattle.hb_system.proofs.seating.into_disks.Given as goal

abbrev pub invariant-loop-nodes : goal.invariant-loop-nodes
invariant-loop-nodes g l = record {
  room : vec_len l.slots + 2 * vec_len l.nodes ≤ vec_capacity l.slots;
  given : (rest : List g.row.D.Denot) → Gives g.D.Disk.left g.F.Node.leaves g.S.Node.leaves l.nodes.items rest → Gives g.D.Disk.left g.F.Node.leaves g.S.Node.leaves l.fn.nodes.items (l.slots.items ++ rest);
}

abbrev pub decreases-loop-nodes : goal.decreases-loop-nodes
decreases-loop-nodes g l = vec_len l.nodes
