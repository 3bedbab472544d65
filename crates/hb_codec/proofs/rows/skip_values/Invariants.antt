use Rattle.std.proofs.Common.{◌≡◌, ◌≤◌}
use Rattle.hb_codec.specs.Readers.{behind, many_in}
use Rattle.hb_codec.specs.RowReaders.{value_in, room_after}
use Rattle.hb_codec.proofs.rows.skip_values.Given as goal

abbrev pub invariant-loop-left : goal.invariant-loop-left
invariant-loop-left l = record {
  few : l.left ≤ 255;
  so_far : behind (many_in value_in room_after l.left l.room l.rest) ≡ behind (many_in value_in room_after l.count l.fn.first l.bytes);
}

abbrev pub decreases-loop-left : goal.decreases-loop-left
decreases-loop-left l = l.left
