use Rattle.std.proofs.Common.{◌≡◌, ◌≤◌}
use Rattle.hb_codec.specs.Readers.{many_in}
use Rattle.hb_codec.specs.ChangeReaders.{change_in, slot_after}
use Rattle.hb_codec.proofs.Lists.{with_front}
use Rattle.hb_codec.proofs.changes.changes_at.Given as goal

abbrev pub invariant-loop-left : goal.invariant-loop-left
invariant-loop-left l = record {
  few : l.left ≤ l.count;
  so_far : with_front l.changes.items (many_in change_in slot_after l.left l.slot l.rest) ≡ many_in change_in slot_after l.count (record { least = 0; room = l.room }) l.bytes;
}

abbrev pub decreases-loop-left : goal.decreases-loop-left
decreases-loop-left l = l.left
