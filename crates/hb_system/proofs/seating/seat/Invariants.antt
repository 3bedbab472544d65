use Rattle.std.proofs.Common.{◌≡◌, ◌+◌, ◌*◌, ◌≤◌, ◌++◌, ℕ, List, All, vec_len, vec_capacity}
use Rattle.hb_reach.specs.Told.{meanings}
use Rattle.hb_system.specs.Giving.{Counts}
use Rattle.hb_system.specs.Making.{IsReadyAt, AreMade}
use Rattle.hb_system.specs.Variants.{of_kind}
use Rattle.hb_system.proofs.seating.seat.Given as goal

abbrev pub invariant-loop-alloc : goal.invariant-loop-alloc
invariant-loop-alloc g l = record {
  ready : (moment : ℕ) → All (IsReadyAt g.D.Disk.content g.D.Disk.left g.D.Disk.last moment) l.fn.disks.items → All (IsReadyAt g.D.Disk.content g.D.Disk.left g.D.Disk.last moment) l.disks.items;
  made : (moment : ℕ) → AreMade (All (IsReadyAt g.D.Disk.content g.D.Disk.left g.D.Disk.last moment) l.fn.disks.items)
      (meanings (of_kind g.F.Node.named g.S.Node.named) (of_kind g.F.Node.trail g.S.Node.trail) (of_kind g.F.Node.explains g.S.Node.explains) (of_kind g.F.Node.leaves g.S.Node.leaves) (of_kind g.F.Node.last g.S.Node.last)) moment l.nodes.items;
  counts : (taken : List g.row.D.Denot) × (l.fn.disks.items ≡ taken ++ l.disks.items) × Counts g.D.Disk.faults g.F.Node.faults g.S.Node.faults l.nodes.items taken;
  count : 2 * vec_len l.nodes + vec_len l.disks ≡ vec_len l.fn.disks + 1;
  some : 1 ≤ vec_len l.nodes;
  room : vec_capacity l.nodes ≡ vec_capacity l.fn.nodes;
  slots : vec_capacity l.disks ≡ vec_capacity l.fn.disks;
}

abbrev pub decreases-loop-alloc : goal.decreases-loop-alloc
decreases-loop-alloc g l = vec_len l.disks
