use Rattle.std.proofs.Common.{ℕ, List, Global, arith, ◌≡◌, ◌++◌, sym, ap, subst, refl, ◌∙◌, length, drop, [], ◌∷◌}
use Rattle.std.specs.Prelude.{OnOk, OnErr}
use Rattle.std.specs.List.{flat_map}
use Rattle.std.specs.declared.option.Option.{Option}
use Rattle.std.proofs.lemmas.Result.{err_from_is_err_and}
use Rattle.hb_edge.specs.Streams.{with_end}
use Rattle.hb_node.specs.Lists.{here}
use Rattle.hb_reach.specs.Told.{meanings}
use Rattle.hb_stepper.specs.Running.{Running, running}
use Rattle.hb_print.specs.Places.{Names}
use Rattle.hb_print.specs.Texts.{text_of}
use Rattle.hb_acts.specs.Acts.{Act, does, resumes, closes, ends, own_text, count_line, Reached, Halted}
use Rattle.hb_acts.specs.Putting.{PutsFront}
use Rattle.hb_acts.specs.declared.stop.Stop.TheVariants.{Memory, Sink}
use Rattle.hb_acts.proofs.Clocks.{lists_now, onward_then}
use Rattle.hb_acts.proofs.Acting.{on_err, on_err_map, on_ok_map, stops_error, stops_later, stops_memory, halted_front, halted_own, reached_line}
use Rattle.hb_acts.proofs.Chains.{halted_act, halted_before, halted_none, halted_then, prints_since, reached_act, reached_then}
use Rattle.hb_acts.proofs.acts.finish.Goals as goal

pub returns-in_err-act_close-clause-part : goal.returns-in_err-act_close-clause-part
returns-in_err-act_close-clause-part g c = on_err _ _ (halted_before (running c.args.sessions.now (lists_now (meanings g.N.Node.named g.N.Node.trail g.N.Node.explains g.N.Node.leaves g.N.Node.last) (meanings g.M.Node.named g.M.Node.trail g.M.Node.explains g.M.Node.leaves g.M.Node.last) c.args.nodes.now)) (running c.act_close.new.sessions (lists_now (meanings g.N.Node.named g.N.Node.trail g.N.Node.explains g.N.Node.leaves g.N.Node.last) (meanings g.M.Node.named g.M.Node.trail g.M.Node.explains g.M.Node.leaves g.M.Node.last) c.act_close.new.nodes)) (closes ∷ []) (ends c.args.count ∷ []) (g.O.Sink.held c.args.sink.now) (g.O.Sink.held c.act_close.new.sink) c.in_err-act_close.ensures.part)

pub returns-in_err-act_close-clause-cause : goal.returns-in_err-act_close-clause-cause
returns-in_err-act_close-clause-cause g c =
    let p = err_from_is_err_and c.from_residual.result c.from_residual.ensures.1 in
    stops_error _ _ _ _ (omega arith) c.act_close.ensures.cause.later c.in_err-act_close.ensures.cause.cause p.0 p.2 _ p.1

pub returns-clause-done : goal.returns-clause-done
returns-clause-done g c =
    let P : Names → Type 0 = λ names. OnOk c.put_count.result ((g.O.Sink.held c.put_count.new.sink) ≡ with_end (text_of names (count_line c.args.count)) (g.O.Sink.held c.act_close.new.sink)) in
    on_ok_map c.put_count.result _ _ (λ all. reached_then (running c.args.sessions.now (lists_now (meanings g.N.Node.named g.N.Node.trail g.N.Node.explains g.N.Node.leaves g.N.Node.last) (meanings g.M.Node.named g.M.Node.trail g.M.Node.explains g.M.Node.leaves g.M.Node.last) c.args.nodes.now)) (running c.act_close.new.sessions (lists_now (meanings g.N.Node.named g.N.Node.trail g.N.Node.explains g.N.Node.leaves g.N.Node.last) (meanings g.M.Node.named g.M.Node.trail g.M.Node.explains g.M.Node.leaves g.M.Node.last) c.act_close.new.nodes)) (running c.act_close.new.sessions (lists_now (meanings g.N.Node.named g.N.Node.trail g.N.Node.explains g.N.Node.leaves g.N.Node.last) (meanings g.M.Node.named g.M.Node.trail g.M.Node.explains g.M.Node.leaves g.M.Node.last) c.act_close.new.nodes)) (closes ∷ []) (ends c.args.count ∷ []) (g.O.Sink.held c.args.sink.now) (g.O.Sink.held c.act_close.new.sink) (g.O.Sink.held c.put_count.new.sink) c.in_ok-act_close.ensures.done
    (reached_act (running c.act_close.new.sessions (lists_now (meanings g.N.Node.named g.N.Node.trail g.N.Node.explains g.N.Node.leaves g.N.Node.last) (meanings g.M.Node.named g.M.Node.trail g.M.Node.explains g.M.Node.leaves g.M.Node.last) c.act_close.new.nodes)) (running c.act_close.new.sessions (lists_now (meanings g.N.Node.named g.N.Node.trail g.N.Node.explains g.N.Node.leaves g.N.Node.last) (meanings g.M.Node.named g.M.Node.trail g.M.Node.explains g.M.Node.leaves g.M.Node.last) c.act_close.new.nodes)) (ends c.args.count) (text_of c.act_close.new.sessions.names.items (count_line c.args.count)) (g.O.Sink.held c.act_close.new.sink) (g.O.Sink.held c.put_count.new.sink) (refl, refl) all))
    (subst P c.names.ensures c.put_count.ensures.all)

pub returns-clause-part : goal.returns-clause-part
returns-clause-part g c =
    let P : Names → Type 0 = λ names. OnErr c.put_count.result (PutsFront (g.O.Sink.held c.act_close.new.sink) (g.O.Sink.held c.put_count.new.sink) (text_of names (count_line c.args.count))) in
    on_err_map c.put_count.result _ _ (λ puts. halted_then (running c.args.sessions.now (lists_now (meanings g.N.Node.named g.N.Node.trail g.N.Node.explains g.N.Node.leaves g.N.Node.last) (meanings g.M.Node.named g.M.Node.trail g.M.Node.explains g.M.Node.leaves g.M.Node.last) c.args.nodes.now)) (running c.act_close.new.sessions (lists_now (meanings g.N.Node.named g.N.Node.trail g.N.Node.explains g.N.Node.leaves g.N.Node.last) (meanings g.M.Node.named g.M.Node.trail g.M.Node.explains g.M.Node.leaves g.M.Node.last) c.act_close.new.nodes)) (running c.act_close.new.sessions (lists_now (meanings g.N.Node.named g.N.Node.trail g.N.Node.explains g.N.Node.leaves g.N.Node.last) (meanings g.M.Node.named g.M.Node.trail g.M.Node.explains g.M.Node.leaves g.M.Node.last) c.act_close.new.nodes)) (closes ∷ []) (ends c.args.count ∷ []) (g.O.Sink.held c.args.sink.now) (g.O.Sink.held c.act_close.new.sink) (g.O.Sink.held c.put_count.new.sink) c.in_ok-act_close.ensures.done
    (halted_act (running c.act_close.new.sessions (lists_now (meanings g.N.Node.named g.N.Node.trail g.N.Node.explains g.N.Node.leaves g.N.Node.last) (meanings g.M.Node.named g.M.Node.trail g.M.Node.explains g.M.Node.leaves g.M.Node.last) c.act_close.new.nodes)) (running c.act_close.new.sessions (lists_now (meanings g.N.Node.named g.N.Node.trail g.N.Node.explains g.N.Node.leaves g.N.Node.last) (meanings g.M.Node.named g.M.Node.trail g.M.Node.explains g.M.Node.leaves g.M.Node.last) c.act_close.new.nodes)) (ends c.args.count) (text_of c.act_close.new.sessions.names.items (count_line c.args.count)) (g.O.Sink.held c.act_close.new.sink) (g.O.Sink.held c.put_count.new.sink) (refl, refl) puts))
    (subst P c.names.ensures c.put_count.ensures.part)

pub returns-clause-cause : goal.returns-clause-cause
returns-clause-cause g c = stops_later _ _ _ _ c.act_close.ensures.cause.later c.put_count.ensures.cause
