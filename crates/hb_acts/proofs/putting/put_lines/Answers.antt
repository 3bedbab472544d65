use Rattle.std.proofs.Common.{◌≡◌, subst, arith, refl}
use Rattle.hb_edge.specs.Streams.{with_end}
use Rattle.hb_model.specs.declared.line.Line.{Line}
use Rattle.hb_acts.specs.Putting.{PutsFront}
use Rattle.std.proofs.lemmas.Result.{err_from_is_err_and}
use Rattle.hb_print.specs.Texts.{text_of}
use Rattle.hb_acts.proofs.Acting.{on_err, stops_error}
use Rattle.hb_acts.proofs.PutTexts.{first_all, first_more, first_part, with_end_nothing}
use Rattle.hb_acts.proofs.putting.put_lines.Goals as goal

pub loop-line-init : goal.loop-line-init
loop-line-init g c = record { put = with_end_nothing _; clock = omega arith; later = omega arith }

pub loop-line-preserved : goal.loop-line-preserved
loop-line-preserved g c = record {
  put = first_more (text_of c.args.names.now) c.args.lines.now c.loop-line.line-index c.line-item.result (g.O.Sink.held c.args.sink.now) (g.O.Sink.held c.loop-line.sink) (g.O.Sink.held c.put_line.new.sink) c.loop-line-test.true c.loop-line.invariant.put (subst (λ (x : Line). g.O.Sink.held c.put_line.new.sink ≡ with_end (text_of c.args.names.now x) (g.O.Sink.held c.loop-line.sink)) c.line-item.is c.in_ok-put_line.ensures.all);
  clock = omega (arith, c.loop-line.invariant.clock, c.put_line.ensures.clock);
  later = omega (arith, c.loop-line.invariant.later, c.put_line.ensures.cause.later);
}

pub returns-in_err-put_line-clause-part : goal.returns-in_err-put_line-clause-part
returns-in_err-put_line-clause-part g c = on_err _ _ (first_part (text_of c.args.names.now) c.args.lines.now c.loop-line.line-index c.line-item.result (g.O.Sink.held c.args.sink.now) (g.O.Sink.held c.loop-line.sink) (g.O.Sink.held c.put_line.new.sink) c.loop-line-test.true c.loop-line.invariant.put (subst (λ (x : Line). PutsFront (g.O.Sink.held c.loop-line.sink) (g.O.Sink.held c.put_line.new.sink) (text_of c.args.names.now x)) c.line-item.is c.in_err-put_line.ensures.part))

pub returns-in_err-put_line-clause-cause : goal.returns-in_err-put_line-clause-cause
returns-in_err-put_line-clause-cause g c =
    let p = err_from_is_err_and c.from_residual.result c.from_residual.ensures.1 in
    stops_error _ _ _ _ c.loop-line.invariant.later c.put_line.ensures.cause.later c.in_err-put_line.ensures.cause.cause p.0 p.2 _ p.1

pub returns-clause-all : goal.returns-clause-all
returns-clause-all g c = first_all (text_of c.args.names.now) c.args.lines.now c.loop-line.line-index (g.O.Sink.held c.args.sink.now) (g.O.Sink.held c.loop-line.sink) (omega (arith, c.loop-line-test.false)) c.loop-line.invariant.put
