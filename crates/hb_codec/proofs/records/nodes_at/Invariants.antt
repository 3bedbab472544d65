use Rattle.std.proofs.Common.{◌≡◌, ◌≤◌}
use Rattle.hb_codec.specs.Readers.{many_in}
use Rattle.hb_codec.specs.RecordReaders.{node_in, node_after}
use Rattle.hb_codec.proofs.Lists.{with_front}
use Rattle.hb_codec.proofs.records.nodes_at.Given as goal

abbrev pub invariant-loop-left : goal.invariant-loop-left
invariant-loop-left l = record {
  few : l.left ≤ l.count;
  so_far : with_front l.nodes.items (many_in node_in node_after l.left l.least l.rest) ≡ many_in node_in node_after l.count 1 l.bytes;
}

abbrev pub decreases-loop-left : goal.decreases-loop-left
decreases-loop-left l = l.left
