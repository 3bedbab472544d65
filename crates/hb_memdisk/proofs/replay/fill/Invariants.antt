use Rattle.std.proofs.Common.{◌≡◌, reverse, take}
use Rattle.hb_memdisk.specs.Calls.{filled, reads}
use Rattle.hb_memdisk.proofs.replay.fill.Given as goal

abbrev pub invariant-loop-noted : goal.invariant-loop-noted
invariant-loop-noted l = record {
  image : l.image.items ≡ filled l.v l.first (reverse (take l.noted-index l.calls));
  read : l.read.items ≡ reads l.first (reverse (take l.noted-index l.calls));
}
