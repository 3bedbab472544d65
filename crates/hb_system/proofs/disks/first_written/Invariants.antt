use Rattle.std.proofs.Common.{◌≡◌, length, All}
use Rattle.std.specs.List.{AllWithin}
use Rattle.hb_system.specs.Disks.{AreKept, IsSettled, IsEmpty}
use Rattle.hb_system.proofs.disks.first_written.Given as goal

abbrev pub invariant-loop-i : goal.invariant-loop-i
invariant-loop-i g l = record {
  kept : AreKept g.D.Disk.content g.D.Disk.last g.D.Disk.faults l.fn.clock l.clock l.fn.disks l.disks;
  settled : All (IsSettled g.D.Disk.content g.D.Disk.left g.D.Disk.last) l.fn.disks → All (IsSettled g.D.Disk.content g.D.Disk.left g.D.Disk.last) l.disks;
  empty : AllWithin (IsEmpty g.D.Disk.content) l.disks 0 l.i;
  long : length l.disks ≡ length l.fn.disks;
}
