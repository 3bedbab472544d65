use Rattle.std.proofs.Common.{◌≤◌, ◌+◌, length}
use Rattle.hb_edge.specs.Streams.{with_front}
use Rattle.hb_lines.proofs.ReadingLemmas.{Reading}
use Rattle.hb_lines.proofs.reader.LineReader.take_line.Given as goal

abbrev pub invariant-pieces : goal.invariant-pieces
invariant-pieces g l = record {
  reading : Reading (with_front l.fn.self (g.S.Source.left l.fn.source)) l.front.items l.self (g.S.Source.left l.source) (length l.fn.self + g.S.Source.bound l.fn.source) (g.S.Source.bound l.source);
  later : g.S.Source.faults l.fn.source ≤ g.S.Source.faults l.source;
}

abbrev pub decreases-pieces : goal.decreases-pieces
decreases-pieces g l = g.S.Source.bound l.source
