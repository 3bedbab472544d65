use Rattle.std.proofs.Common.{◌≡◌, ◌∙◌, ap, arith, refl, List, ℕ, subst}
use Rattle.std.specs.Prelude.{None}
use Rattle.std.proofs.lemmas.Result.{err_from_is_err_and}
use Rattle.hb_edge.specs.Streams.{with_front}
use Rattle.hb_lines.specs.Next.{NextLine}
use Rattle.hb_lines.specs.declared.said.Said.{Said}
use Rattle.hb_reach.specs.Told.{meanings}
use Rattle.hb_stepper.specs.Running.{running}
use Rattle.hb_acts.specs.declared.stop.Stop.TheVariants.{Source, Sink, Memory, Line}
use Rattle.hb_acts.specs.Outside.{seen}
use Rattle.hb_node.specs.Lists.{here}
use Rattle.hb_acts.proofs.Clocks.{lists_now, onward_then}
use Rattle.hb_acts.proofs.Halting.{by_reading, by_sink, cause_last, goes_nowhere, is_long, output_part, output_all, output_last, rose_since, runs_stopped, within_last, within_sink}
use Rattle.hb_acts.proofs.LinesSaid.{long_in, with_front_nothing}
use Rattle.hb_acts.proofs.Running.{done_last, stopped_last, stops_between, stops_within, way_on, way_start}
use Rattle.hb_acts.proofs.run.run_script.Goals as goal

pub returns-in_err-reader-clause-runs : goal.returns-in_err-reader-clause-runs
returns-in_err-reader-clause-runs g c =
    let p = err_from_is_err_and c.from_residual.result c.from_residual.ensures.1 in
    runs_stopped (running c.args.sessions.now (lists_now (meanings g.N.Node.named g.N.Node.trail g.N.Node.explains g.N.Node.leaves g.N.Node.last) (meanings g.M.Node.named g.M.Node.trail g.M.Node.explains g.M.Node.leaves g.M.Node.last) c.args.nodes.now)) (running c.args.sessions.now (lists_now (meanings g.N.Node.named g.N.Node.trail g.N.Node.explains g.N.Node.leaves g.N.Node.last) (meanings g.M.Node.named g.M.Node.trail g.M.Node.explains g.M.Node.leaves g.M.Node.last) c.args.nodes.now)) (seen g.S.Source.left g.S.Source.faults g.O.Sink.held g.O.Sink.faults c.args.source.now c.args.sink.now) (seen g.S.Source.left g.S.Source.faults g.O.Sink.held g.O.Sink.faults c.args.source.now c.args.sink.now) Memory (goes_nowhere _) tt
    (stops_between (running c.args.sessions.now (lists_now (meanings g.N.Node.named g.N.Node.trail g.N.Node.explains g.N.Node.leaves g.N.Node.last) (meanings g.M.Node.named g.M.Node.trail g.M.Node.explains g.M.Node.leaves g.M.Node.last) c.args.nodes.now)) (seen g.S.Source.left g.S.Source.faults g.O.Sink.held g.O.Sink.faults c.args.source.now c.args.sink.now) (seen g.S.Source.left g.S.Source.faults g.O.Sink.held g.O.Sink.faults c.args.source.now c.args.sink.now) (g.S.Source.left c.args.source.now) 0 (running c.args.sessions.now (lists_now (meanings g.N.Node.named g.N.Node.trail g.N.Node.explains g.N.Node.leaves g.N.Node.last) (meanings g.M.Node.named g.M.Node.trail g.M.Node.explains g.M.Node.leaves g.M.Node.last) c.args.nodes.now)) Memory (way_start _ _ _ _ refl) (λ is. absurd (cc))) p.0 p.2 _ p.1

pub returns-in_err-said-clause-runs : goal.returns-in_err-said-clause-runs
returns-in_err-said-clause-runs g c =
    let p = err_from_is_err_and c.from_residual-in_err-said.result c.from_residual-in_err-said.ensures.1 in
    let on = c.script.invariant.goes_on in
    runs_stopped (running c.args.sessions.now (lists_now (meanings g.N.Node.named g.N.Node.trail g.N.Node.explains g.N.Node.leaves g.N.Node.last) (meanings g.M.Node.named g.M.Node.trail g.M.Node.explains g.M.Node.leaves g.M.Node.last) c.args.nodes.now)) (running c.script.sessions (lists_now (meanings g.N.Node.named g.N.Node.trail g.N.Node.explains g.N.Node.leaves g.N.Node.last) (meanings g.M.Node.named g.M.Node.trail g.M.Node.explains g.M.Node.leaves g.M.Node.last) c.script.nodes)) (seen g.S.Source.left g.S.Source.faults g.O.Sink.held g.O.Sink.faults c.args.source.now c.args.sink.now) (seen g.S.Source.left g.S.Source.faults g.O.Sink.held g.O.Sink.faults c.next_line.new.source c.script.sink) _
    (record { source = omega (arith, on.source, c.in_err-said.ensures.cause.later); sink = on.sink; output = on.output })
    (by_reading _ _ _ _ _ _ _ c.in_err-said.ensures.cause.cause (λ rose. rose_since _ _ _ on.source rose) (λ long. long_in _ _ _ c.script.invariant.way.said long))
    (stops_between (running c.args.sessions.now (lists_now (meanings g.N.Node.named g.N.Node.trail g.N.Node.explains g.N.Node.leaves g.N.Node.last) (meanings g.M.Node.named g.M.Node.trail g.M.Node.explains g.M.Node.leaves g.M.Node.last) c.args.nodes.now)) (seen g.S.Source.left g.S.Source.faults g.O.Sink.held g.O.Sink.faults c.args.source.now c.args.sink.now) (seen g.S.Source.left g.S.Source.faults g.O.Sink.held g.O.Sink.faults c.next_line.new.source c.script.sink) (with_front c.script.reader (g.S.Source.left c.script.source)) c.script.number (running c.script.sessions (lists_now (meanings g.N.Node.named g.N.Node.trail g.N.Node.explains g.N.Node.leaves g.N.Node.last) (meanings g.M.Node.named g.M.Node.trail g.M.Node.explains g.M.Node.leaves g.M.Node.last) c.script.nodes)) _ c.script.invariant.way (is_long _ _ _ _ c.in_err-said.ensures.cause.cause)) p.0 p.2 _ p.1

pub returns-in_err-number-clause-runs : goal.returns-in_err-number-clause-runs
returns-in_err-number-clause-runs g c =
    let p = err_from_is_err_and c.from_residual-in_err-number.result c.from_residual-in_err-number.ensures.1 in
    let on = c.script.invariant.goes_on in
    runs_stopped (running c.args.sessions.now (lists_now (meanings g.N.Node.named g.N.Node.trail g.N.Node.explains g.N.Node.leaves g.N.Node.last) (meanings g.M.Node.named g.M.Node.trail g.M.Node.explains g.M.Node.leaves g.M.Node.last) c.args.nodes.now)) (running c.script.sessions (lists_now (meanings g.N.Node.named g.N.Node.trail g.N.Node.explains g.N.Node.leaves g.N.Node.last) (meanings g.M.Node.named g.M.Node.trail g.M.Node.explains g.M.Node.leaves g.M.Node.last) c.script.nodes)) (seen g.S.Source.left g.S.Source.faults g.O.Sink.held g.O.Sink.faults c.args.source.now c.args.sink.now) (seen g.S.Source.left g.S.Source.faults g.O.Sink.held g.O.Sink.faults c.next_line.new.source c.script.sink) Memory
    (record { source = omega (arith, on.source, c.next_line.ensures.cause.later); sink = on.sink; output = on.output }) tt
    (stops_between (running c.args.sessions.now (lists_now (meanings g.N.Node.named g.N.Node.trail g.N.Node.explains g.N.Node.leaves g.N.Node.last) (meanings g.M.Node.named g.M.Node.trail g.M.Node.explains g.M.Node.leaves g.M.Node.last) c.args.nodes.now)) (seen g.S.Source.left g.S.Source.faults g.O.Sink.held g.O.Sink.faults c.args.source.now c.args.sink.now) (seen g.S.Source.left g.S.Source.faults g.O.Sink.held g.O.Sink.faults c.next_line.new.source c.script.sink) (with_front c.script.reader (g.S.Source.left c.script.source)) c.script.number (running c.script.sessions (lists_now (meanings g.N.Node.named g.N.Node.trail g.N.Node.explains g.N.Node.leaves g.N.Node.last) (meanings g.M.Node.named g.M.Node.trail g.M.Node.explains g.M.Node.leaves g.M.Node.last) c.script.nodes)) Memory c.script.invariant.way (λ is. absurd (cc))) p.0 (p.2 ∙ c.in_err-number.ensures.memory) _ p.1

pub returns-in_err-serve-clause-runs : goal.returns-in_err-serve-clause-runs
returns-in_err-serve-clause-runs g c =
    let p = err_from_is_err_and c.from_residual-in_err-serve.result c.from_residual-in_err-serve.ensures.1 in
    let on = c.script.invariant.goes_on in
    runs_stopped (running c.args.sessions.now (lists_now (meanings g.N.Node.named g.N.Node.trail g.N.Node.explains g.N.Node.leaves g.N.Node.last) (meanings g.M.Node.named g.M.Node.trail g.M.Node.explains g.M.Node.leaves g.M.Node.last) c.args.nodes.now)) (running c.serve.new.sessions (lists_now (meanings g.N.Node.named g.N.Node.trail g.N.Node.explains g.N.Node.leaves g.N.Node.last) (meanings g.M.Node.named g.M.Node.trail g.M.Node.explains g.M.Node.leaves g.M.Node.last) c.serve.new.nodes)) (seen g.S.Source.left g.S.Source.faults g.O.Sink.held g.O.Sink.faults c.args.source.now c.args.sink.now) (seen g.S.Source.left g.S.Source.faults g.O.Sink.held g.O.Sink.faults c.next_line.new.source c.serve.new.sink) _
    (record { source = omega (arith, on.source, c.next_line.ensures.cause.later); sink = omega (arith, on.sink, c.serve.ensures.cause.later); output = output_part _ _ _ _ _ c.in_err-serve.ensures.part ∙ on.output })
    (by_sink _ _ _ _ _ _ c.in_err-serve.ensures.cause.cause (λ rose. rose_since _ _ _ on.sink rose))
    (stops_within (running c.args.sessions.now (lists_now (meanings g.N.Node.named g.N.Node.trail g.N.Node.explains g.N.Node.leaves g.N.Node.last) (meanings g.M.Node.named g.M.Node.trail g.M.Node.explains g.M.Node.leaves g.M.Node.last) c.args.nodes.now)) (seen g.S.Source.left g.S.Source.faults g.O.Sink.held g.O.Sink.faults c.args.source.now c.args.sink.now) (seen g.S.Source.left g.S.Source.faults g.O.Sink.held g.O.Sink.faults c.next_line.new.source c.serve.new.sink) (with_front c.script.reader (g.S.Source.left c.script.source)) (with_front c.next_line.new.reader (g.S.Source.left c.next_line.new.source)) c.script.number c.in_ok-number.number (running c.script.sessions (lists_now (meanings g.N.Node.named g.N.Node.trail g.N.Node.explains g.N.Node.leaves g.N.Node.last) (meanings g.M.Node.named g.M.Node.trail g.M.Node.explains g.M.Node.leaves g.M.Node.last) c.script.nodes)) (running c.serve.new.sessions (lists_now (meanings g.N.Node.named g.N.Node.trail g.N.Node.explains g.N.Node.leaves g.N.Node.last) (meanings g.M.Node.named g.M.Node.trail g.M.Node.explains g.M.Node.leaves g.M.Node.last) c.serve.new.nodes)) (g.O.Sink.held c.script.sink) c.in-Some.said _ c.script.invariant.way (rw c.in-Some.is at c.in_ok-said.ensures.next) c.in_ok-number.ensures.next c.in_err-serve.ensures.part (within_sink _ _ _ c.in_err-serve.ensures.cause.cause)) p.0 p.2 _ p.1

pub script-init : goal.script-init
script-init g c = record {
  goes_on = goes_nowhere _;
  clock = omega arith;
  behind = λ h. h;
  goes = here;
  way = way_start _ _ _ _ (ap (λ l. with_front l (g.S.Source.left c.args.source.now)) c.in_ok-reader.ensures ∙ with_front_nothing _);
}

pub script-preserved : goal.script-preserved
script-preserved g c =
    let on = c.script.invariant.goes_on in
    record {
      clock = omega (arith, c.script.invariant.clock, c.serve.ensures.clock);
      behind = λ h. c.serve.ensures.behind;
      goes = onward_then _ _ _ _ c.script.invariant.goes c.serve.ensures.goes;
      goes_on = record { source = omega (arith, on.source, c.next_line.ensures.cause.later); sink = omega (arith, on.sink, c.serve.ensures.cause.later); output = output_all _ _ _ _ _ c.in_ok-serve.ensures.done ∙ on.output };
      way = way_on (running c.args.sessions.now (lists_now (meanings g.N.Node.named g.N.Node.trail g.N.Node.explains g.N.Node.leaves g.N.Node.last) (meanings g.M.Node.named g.M.Node.trail g.M.Node.explains g.M.Node.leaves g.M.Node.last) c.args.nodes.now)) (g.S.Source.left c.args.source.now) (with_front c.script.reader (g.S.Source.left c.script.source)) (with_front c.next_line.new.reader (g.S.Source.left c.next_line.new.source)) (g.O.Sink.held c.args.sink.now) c.script.number c.in_ok-number.number (running c.script.sessions (lists_now (meanings g.N.Node.named g.N.Node.trail g.N.Node.explains g.N.Node.leaves g.N.Node.last) (meanings g.M.Node.named g.M.Node.trail g.M.Node.explains g.M.Node.leaves g.M.Node.last) c.script.nodes)) (running c.serve.new.sessions (lists_now (meanings g.N.Node.named g.N.Node.trail g.N.Node.explains g.N.Node.leaves g.N.Node.last) (meanings g.M.Node.named g.M.Node.trail g.M.Node.explains g.M.Node.leaves g.M.Node.last) c.serve.new.nodes)) (g.O.Sink.held c.script.sink) (g.O.Sink.held c.serve.new.sink) c.in-Some.said c.script.invariant.way (rw c.in-Some.is at c.in_ok-said.ensures.next) c.in_ok-number.ensures.next c.in_ok-serve.ensures.done;
    }

pub returns-clause-runs : goal.returns-clause-runs
returns-clause-runs g c =
    let on = c.script.invariant.goes_on in
    let none : NextLine None (with_front c.script.reader (g.S.Source.left c.script.source)) (with_front c.next_line.new.reader (g.S.Source.left c.next_line.new.source)) = rw c.in_default.is at c.in_ok-said.ensures.next in
    record {
      goes_on = record { source = omega (arith, on.source, c.next_line.ensures.cause.later); sink = omega (arith, on.sink, c.finish.ensures.cause.later); output = output_last _ _ _ _ _ c.finish.result c.finish.ensures.done c.finish.ensures.part ∙ on.output };
      cause = cause_last _ _ _ _ _ c.finish.result c.finish.ensures.cause (λ rose. rose_since _ _ _ on.sink rose);
      done = done_last (running c.args.sessions.now (lists_now (meanings g.N.Node.named g.N.Node.trail g.N.Node.explains g.N.Node.leaves g.N.Node.last) (meanings g.M.Node.named g.M.Node.trail g.M.Node.explains g.M.Node.leaves g.M.Node.last) c.args.nodes.now)) (seen g.S.Source.left g.S.Source.faults g.O.Sink.held g.O.Sink.faults c.args.source.now c.args.sink.now) (seen g.S.Source.left g.S.Source.faults g.O.Sink.held g.O.Sink.faults c.next_line.new.source c.finish.new.sink) (with_front c.script.reader (g.S.Source.left c.script.source)) c.next_line.new.reader c.script.number (running c.script.sessions (lists_now (meanings g.N.Node.named g.N.Node.trail g.N.Node.explains g.N.Node.leaves g.N.Node.last) (meanings g.M.Node.named g.M.Node.trail g.M.Node.explains g.M.Node.leaves g.M.Node.last) c.script.nodes)) (g.O.Sink.held c.script.sink) c.script.invariant.way none (running c.finish.new.sessions (lists_now (meanings g.N.Node.named g.N.Node.trail g.N.Node.explains g.N.Node.leaves g.N.Node.last) (meanings g.M.Node.named g.M.Node.trail g.M.Node.explains g.M.Node.leaves g.M.Node.last) c.finish.new.nodes)) c.finish.result c.finish.ensures.done;
      stopped = stopped_last (running c.args.sessions.now (lists_now (meanings g.N.Node.named g.N.Node.trail g.N.Node.explains g.N.Node.leaves g.N.Node.last) (meanings g.M.Node.named g.M.Node.trail g.M.Node.explains g.M.Node.leaves g.M.Node.last) c.args.nodes.now)) (seen g.S.Source.left g.S.Source.faults g.O.Sink.held g.O.Sink.faults c.args.source.now c.args.sink.now) (seen g.S.Source.left g.S.Source.faults g.O.Sink.held g.O.Sink.faults c.next_line.new.source c.finish.new.sink) (with_front c.script.reader (g.S.Source.left c.script.source)) c.next_line.new.reader c.script.number (running c.script.sessions (lists_now (meanings g.N.Node.named g.N.Node.trail g.N.Node.explains g.N.Node.leaves g.N.Node.last) (meanings g.M.Node.named g.M.Node.trail g.M.Node.explains g.M.Node.leaves g.M.Node.last) c.script.nodes)) (g.O.Sink.held c.script.sink) c.script.invariant.way none (running c.finish.new.sessions (lists_now (meanings g.N.Node.named g.N.Node.trail g.N.Node.explains g.N.Node.leaves g.N.Node.last) (meanings g.M.Node.named g.M.Node.trail g.M.Node.explains g.M.Node.leaves g.M.Node.last) c.finish.new.nodes)) c.finish.result c.finish.ensures.part (within_last _ _ _ c.finish.ensures.cause);
    }

pub returns-in_err-reader-clause-goes : goal.returns-in_err-reader-clause-goes
returns-in_err-reader-clause-goes g c = here

pub returns-in_err-serve-clause-goes : goal.returns-in_err-serve-clause-goes
returns-in_err-serve-clause-goes g c = onward_then _ _ _ _ c.script.invariant.goes c.serve.ensures.goes

pub returns-clause-goes : goal.returns-clause-goes
returns-clause-goes g c = onward_then _ _ _ _ c.script.invariant.goes c.finish.ensures.goes
