use Rattle.std.proofs.Common.{◌≡◌, ◌≤◌, take}
use Rattle.hb_print.specs.Texts.{text_of}
use Rattle.hb_acts.proofs.PutTexts.{PutFirst}
use Rattle.hb_acts.proofs.putting.put_lines.Given as goal

abbrev pub invariant-loop-line : goal.invariant-loop-line
invariant-loop-line g l = record {
  put : PutFirst (text_of l.names) l.lines l.line-index (g.O.Sink.held l.fn.sink) (g.O.Sink.held l.sink);
  clock : l.fn.clock ≤ l.clock;
  later : g.O.Sink.faults l.fn.sink ≤ g.O.Sink.faults l.sink;
}
