use Rattle.std.proofs.Common.{◌≡◌, ◌≤◌}
use Rattle.hb_codec.specs.Readers.{many_in}
use Rattle.hb_codec.specs.RowReaders.{value_in, room_after}
use Rattle.hb_codec.proofs.Lists.{with_front}
use Rattle.hb_codec.proofs.rows.values_at.Given as goal

abbrev pub invariant-loop-left : goal.invariant-loop-left
invariant-loop-left l = record {
  few : l.left ≤ 255;
  so_far : with_front l.values.items (many_in value_in room_after l.left l.room l.rest) ≡ many_in value_in room_after l.count l.fn.first l.bytes;
}

abbrev pub decreases-loop-left : goal.decreases-loop-left
decreases-loop-left l = l.left
