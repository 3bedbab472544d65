use Rattle.std.proofs.Common.{◌≡◌, ◌≤◌}
use Rattle.hb_codec.specs.Readers.{many_in}
use Rattle.hb_codec.specs.LockReaders.{lock_in, lock_after}
use Rattle.hb_codec.proofs.Lists.{with_front}
use Rattle.hb_codec.proofs.locks.locks_at.Given as goal

abbrev pub invariant-loop-left : goal.invariant-loop-left
invariant-loop-left l = record {
  few : l.left ≤ l.count;
  so_far : with_front l.locks.items (many_in lock_in lock_after l.left l.least l.rest) ≡ many_in lock_in lock_after l.count 0 l.bytes;
}

abbrev pub decreases-loop-left : goal.decreases-loop-left
decreases-loop-left l = l.left
