use Rattle.std.proofs.Common.{ℕ, [], sym, subst}
use Rattle.std.specs.declared.option.Option.{Option}
use Rattle.hb_model.specs.declared.line.Line.{Line}
use Rattle.hb_print.specs.Texts.{text_of}
use Rattle.hb_console.specs.Telling.{Tells, TellsLine}
use Rattle.hb_console.proofs.Tellings.{tells_put}
use Rattle.hb_console.proofs.telling.tell.Goals as goal

pub returns-in-Some-clause-told : goal.returns-in-Some-clause-told
returns-in-Some-clause-told g c =
    let P : Option Line → Type 0 = λ told. Tells told (g.O.Sink.held c.args.sink.now) (g.O.Sink.held c.put_line-put.new.sink) (g.O.Sink.faults c.args.sink.now) (g.O.Sink.faults c.put_line-put.new.sink) c.args.status c.status_behind.result in
    let Q : ℕ → Type 0 = λ status. TellsLine (text_of [] c.in-Some.line) (g.O.Sink.held c.args.sink.now) (g.O.Sink.held c.put_line-put.new.sink) (g.O.Sink.faults c.args.sink.now) (g.O.Sink.faults c.put_line-put.new.sink) c.args.status status in
    subst P (sym c.in-Some.is) (subst Q (sym c.status_behind.ensures)
    (tells_put (text_of [] c.in-Some.line) (g.O.Sink.held c.args.sink.now) (g.O.Sink.held c.put_line-put.new.sink) (g.O.Sink.faults c.args.sink.now) (g.O.Sink.faults c.put_line-put.new.sink) c.args.status c.put_line-put.result c.put_line-put.ensures.all c.put_line-put.ensures.part c.put_line-put.ensures.memory c.put_line-put.ensures.cause))
