use Rattle.std.proofs.Common.{ℕ, List, Global, arith, ◌≡◌, ◌++◌, sym, ap, subst, refl, ◌∙◌, length, drop, [], ◌∷◌}
use Rattle.std.specs.Prelude.{OnOk, OnErr}
use Rattle.std.specs.List.{flat_map}
use Rattle.std.specs.declared.option.Option.{Option}
use Rattle.std.proofs.lemmas.Result.{err_from_is_err_and}
use Rattle.hb_edge.specs.Streams.{with_end}
use Rattle.hb_node.specs.Lists.{here}
use Rattle.hb_reach.specs.Told.{meanings}
use Rattle.hb_stepper.specs.Running.{Running, running}
use Rattle.hb_print.specs.Places.{Names}
use Rattle.hb_print.specs.Texts.{text_of}
use Rattle.hb_acts.specs.Acts.{Act, does, resumes, closes, ends, own_text, count_line, Reached, Halted}
use Rattle.hb_acts.specs.Putting.{PutsFront}
use Rattle.hb_acts.specs.declared.stop.Stop.TheVariants.{Memory, Sink}
use Rattle.hb_acts.proofs.Clocks.{lists_now, lists_on, onward_then, told_now}
use Rattle.hb_acts.proofs.Acting.{on_err, on_err_map, on_ok_map, stops_error, stops_later, stops_memory, halted_front, halted_own, reached_line}
use Rattle.hb_acts.proofs.Chains.{halted_act, halted_before, halted_none, halted_then, prints_since, reached_act, reached_then}
use Rattle.hb_acts.proofs.acts.act_line.Goals as goal

pub returns-in_err-own-clause-part : goal.returns-in_err-own-clause-part
returns-in_err-own-clause-part g c = on_err _ _ (halted_none (running c.args.sessions.now (lists_now (meanings g.N.Node.named g.N.Node.trail g.N.Node.explains g.N.Node.leaves g.N.Node.last) (meanings g.M.Node.named g.M.Node.trail g.M.Node.explains g.M.Node.leaves g.M.Node.last) c.args.nodes.now)) (running c.do_said.new.sessions (lists_now (meanings g.N.Node.named g.N.Node.trail g.N.Node.explains g.N.Node.leaves g.N.Node.last) (meanings g.M.Node.named g.M.Node.trail g.M.Node.explains g.M.Node.leaves g.M.Node.last) c.do_said.new.nodes)) (does c.args.number c.args.said) [] (g.O.Sink.held c.args.sink.now) (g.O.Sink.held c.args.sink.now) refl
    (record { names = c.do_said.ensures.names; lines = c.do_said.ensures.adds; lists = lists_on (told_now (meanings g.N.Node.named g.N.Node.trail g.N.Node.explains g.N.Node.leaves g.N.Node.last) (meanings g.M.Node.named g.M.Node.trail g.M.Node.explains g.M.Node.leaves g.M.Node.last)) c.args.nodes.now c.do_said.new.nodes c.do_said.ensures.goes }))

pub returns-in_err-own-clause-cause : goal.returns-in_err-own-clause-cause
returns-in_err-own-clause-cause g c =
    let p = err_from_is_err_and c.from_residual.result c.from_residual.ensures.1 in
    stops_memory _ _ (omega arith) p.0 p.2 _ p.1

pub returns-in_err-put_since-clause-part : goal.returns-in_err-put_since-clause-part
returns-in_err-put_since-clause-part g c = on_err _ _ (halted_front c.args.number c.args.said (running c.args.sessions.now (lists_now (meanings g.N.Node.named g.N.Node.trail g.N.Node.explains g.N.Node.leaves g.N.Node.last) (meanings g.M.Node.named g.M.Node.trail g.M.Node.explains g.M.Node.leaves g.M.Node.last) c.args.nodes.now)) (running c.do_said.new.sessions (lists_now (meanings g.N.Node.named g.N.Node.trail g.N.Node.explains g.N.Node.leaves g.N.Node.last) (meanings g.M.Node.named g.M.Node.trail g.M.Node.explains g.M.Node.leaves g.M.Node.last) c.do_said.new.nodes)) c.in_ok-own.own (flat_map (text_of c.do_said.new.sessions.names.items) (drop (length c.transcript-place.result.now) c.do_said.new.sessions.lines.items)) c.in_ok-own.ensures.done (prints_since (running c.args.sessions.now (lists_now (meanings g.N.Node.named g.N.Node.trail g.N.Node.explains g.N.Node.leaves g.N.Node.last) (meanings g.M.Node.named g.M.Node.trail g.M.Node.explains g.M.Node.leaves g.M.Node.last) c.args.nodes.now)) (running c.do_said.new.sessions (lists_now (meanings g.N.Node.named g.N.Node.trail g.N.Node.explains g.N.Node.leaves g.N.Node.last) (meanings g.M.Node.named g.M.Node.trail g.M.Node.explains g.M.Node.leaves g.M.Node.last) c.do_said.new.nodes)) (length c.transcript-place.result.now) (ap length c.transcript-place.ensures) c.do_said.ensures.adds) (g.O.Sink.held c.args.sink.now) (g.O.Sink.held c.put_since.new.sink) c.in_err-put_since.ensures.part)

pub returns-in_err-put_since-clause-cause : goal.returns-in_err-put_since-clause-cause
returns-in_err-put_since-clause-cause g c =
    let p = err_from_is_err_and c.from_residual-in_err-put_since.result c.from_residual-in_err-put_since.ensures.1 in
    stops_error _ _ _ _ (omega arith) c.put_since.ensures.cause.later c.in_err-put_since.ensures.cause.cause p.0 p.2 _ p.1

pub returns-clause-done : goal.returns-clause-done
returns-clause-done g c =
    let P : Names → Type 0 = λ names. OnOk c.put_own.result (g.O.Sink.held c.put_own.new.sink ≡ with_end (own_text names c.args.number c.in_ok-own.own) (g.O.Sink.held c.put_since.new.sink)) in
    on_ok_map c.put_own.result _ _ (λ all. reached_line c.args.number c.args.said (running c.args.sessions.now (lists_now (meanings g.N.Node.named g.N.Node.trail g.N.Node.explains g.N.Node.leaves g.N.Node.last) (meanings g.M.Node.named g.M.Node.trail g.M.Node.explains g.M.Node.leaves g.M.Node.last) c.args.nodes.now)) (running c.do_said.new.sessions (lists_now (meanings g.N.Node.named g.N.Node.trail g.N.Node.explains g.N.Node.leaves g.N.Node.last) (meanings g.M.Node.named g.M.Node.trail g.M.Node.explains g.M.Node.leaves g.M.Node.last) c.do_said.new.nodes)) c.in_ok-own.own (flat_map (text_of c.do_said.new.sessions.names.items) (drop (length c.transcript-place.result.now) c.do_said.new.sessions.lines.items)) c.in_ok-own.ensures.done (prints_since (running c.args.sessions.now (lists_now (meanings g.N.Node.named g.N.Node.trail g.N.Node.explains g.N.Node.leaves g.N.Node.last) (meanings g.M.Node.named g.M.Node.trail g.M.Node.explains g.M.Node.leaves g.M.Node.last) c.args.nodes.now)) (running c.do_said.new.sessions (lists_now (meanings g.N.Node.named g.N.Node.trail g.N.Node.explains g.N.Node.leaves g.N.Node.last) (meanings g.M.Node.named g.M.Node.trail g.M.Node.explains g.M.Node.leaves g.M.Node.last) c.do_said.new.nodes)) (length c.transcript-place.result.now) (ap length c.transcript-place.ensures) c.do_said.ensures.adds) (g.O.Sink.held c.args.sink.now) (g.O.Sink.held c.put_since.new.sink) (g.O.Sink.held c.put_own.new.sink) c.in_ok-put_since.ensures.all all)
    (subst P c.names.ensures c.put_own.ensures.all)

pub returns-clause-part : goal.returns-clause-part
returns-clause-part g c =
    let P : Names → Type 0 = λ names. OnErr c.put_own.result (PutsFront (g.O.Sink.held c.put_since.new.sink) (g.O.Sink.held c.put_own.new.sink) (own_text names c.args.number c.in_ok-own.own)) in
    on_err_map c.put_own.result _ _ (λ puts. halted_own c.args.number c.args.said (running c.args.sessions.now (lists_now (meanings g.N.Node.named g.N.Node.trail g.N.Node.explains g.N.Node.leaves g.N.Node.last) (meanings g.M.Node.named g.M.Node.trail g.M.Node.explains g.M.Node.leaves g.M.Node.last) c.args.nodes.now)) (running c.do_said.new.sessions (lists_now (meanings g.N.Node.named g.N.Node.trail g.N.Node.explains g.N.Node.leaves g.N.Node.last) (meanings g.M.Node.named g.M.Node.trail g.M.Node.explains g.M.Node.leaves g.M.Node.last) c.do_said.new.nodes)) c.in_ok-own.own (flat_map (text_of c.do_said.new.sessions.names.items) (drop (length c.transcript-place.result.now) c.do_said.new.sessions.lines.items)) c.in_ok-own.ensures.done (prints_since (running c.args.sessions.now (lists_now (meanings g.N.Node.named g.N.Node.trail g.N.Node.explains g.N.Node.leaves g.N.Node.last) (meanings g.M.Node.named g.M.Node.trail g.M.Node.explains g.M.Node.leaves g.M.Node.last) c.args.nodes.now)) (running c.do_said.new.sessions (lists_now (meanings g.N.Node.named g.N.Node.trail g.N.Node.explains g.N.Node.leaves g.N.Node.last) (meanings g.M.Node.named g.M.Node.trail g.M.Node.explains g.M.Node.leaves g.M.Node.last) c.do_said.new.nodes)) (length c.transcript-place.result.now) (ap length c.transcript-place.ensures) c.do_said.ensures.adds) (g.O.Sink.held c.args.sink.now) (g.O.Sink.held c.put_since.new.sink) (g.O.Sink.held c.put_own.new.sink) c.in_ok-put_since.ensures.all puts)
    (subst P c.names.ensures c.put_own.ensures.part)

pub returns-clause-cause : goal.returns-clause-cause
returns-clause-cause g c = stops_later _ _ _ _ c.put_since.ensures.cause.later c.put_own.ensures.cause
