use Rattle.std.proofs.Common.{ℕ, List, Global, arith, ◌≡◌, ◌++◌, sym, ap, subst, refl, ◌∙◌, length, drop, [], ◌∷◌}
use Rattle.std.specs.Prelude.{OnOk, OnErr}
use Rattle.std.specs.List.{flat_map}
use Rattle.std.specs.declared.option.Option.{Option}
use Rattle.std.proofs.lemmas.Result.{err_from_is_err_and}
use Rattle.hb_edge.specs.Streams.{with_end}
use Rattle.hb_node.specs.Lists.{here}
use Rattle.hb_reach.specs.Told.{meanings}
use Rattle.hb_stepper.specs.Running.{Running, running}
use Rattle.hb_print.specs.Places.{Names}
use Rattle.hb_print.specs.Texts.{text_of}
use Rattle.hb_acts.specs.Acts.{Act, does, resumes, closes, ends, own_text, count_line, Reached, Halted}
use Rattle.hb_acts.specs.Putting.{PutsFront}
use Rattle.hb_acts.specs.declared.stop.Stop.TheVariants.{Memory, Sink}
use Rattle.hb_acts.proofs.Clocks.{lists_now, onward_then}
use Rattle.hb_acts.proofs.Acting.{on_err, on_err_map, on_ok_map, stops_error, stops_later, stops_memory, halted_front, halted_own, reached_line}
use Rattle.hb_acts.proofs.Chains.{halted_act, halted_before, halted_none, halted_then, prints_since, reached_act, reached_then}
use Rattle.hb_acts.proofs.acts.serve.Goals as goal

pub returns-in_err-act_line-clause-part : goal.returns-in_err-act_line-clause-part
returns-in_err-act_line-clause-part g c = on_err _ _ (halted_before (running c.args.sessions.now (lists_now (meanings g.N.Node.named g.N.Node.trail g.N.Node.explains g.N.Node.leaves g.N.Node.last) (meanings g.M.Node.named g.M.Node.trail g.M.Node.explains g.M.Node.leaves g.M.Node.last) c.args.nodes.now)) (running c.act_line.new.sessions (lists_now (meanings g.N.Node.named g.N.Node.trail g.N.Node.explains g.N.Node.leaves g.N.Node.last) (meanings g.M.Node.named g.M.Node.trail g.M.Node.explains g.M.Node.leaves g.M.Node.last) c.act_line.new.nodes)) (does c.args.number c.args.said ∷ []) (resumes ∷ []) (g.O.Sink.held c.args.sink.now) (g.O.Sink.held c.act_line.new.sink) c.in_err-act_line.ensures.part)

pub returns-in_err-act_line-clause-cause : goal.returns-in_err-act_line-clause-cause
returns-in_err-act_line-clause-cause g c =
    let p = err_from_is_err_and c.from_residual.result c.from_residual.ensures.1 in
    stops_error _ _ _ _ (omega arith) c.act_line.ensures.cause.later c.in_err-act_line.ensures.cause.cause p.0 p.2 _ p.1

pub returns-clause-done : goal.returns-clause-done
returns-clause-done g c = on_ok_map c.act_resume.result _ _ (λ reached. reached_then (running c.args.sessions.now (lists_now (meanings g.N.Node.named g.N.Node.trail g.N.Node.explains g.N.Node.leaves g.N.Node.last) (meanings g.M.Node.named g.M.Node.trail g.M.Node.explains g.M.Node.leaves g.M.Node.last) c.args.nodes.now)) (running c.act_line.new.sessions (lists_now (meanings g.N.Node.named g.N.Node.trail g.N.Node.explains g.N.Node.leaves g.N.Node.last) (meanings g.M.Node.named g.M.Node.trail g.M.Node.explains g.M.Node.leaves g.M.Node.last) c.act_line.new.nodes)) (running c.act_resume.new.sessions (lists_now (meanings g.N.Node.named g.N.Node.trail g.N.Node.explains g.N.Node.leaves g.N.Node.last) (meanings g.M.Node.named g.M.Node.trail g.M.Node.explains g.M.Node.leaves g.M.Node.last) c.act_resume.new.nodes)) (does c.args.number c.args.said ∷ []) (resumes ∷ []) (g.O.Sink.held c.args.sink.now) (g.O.Sink.held c.act_line.new.sink) (g.O.Sink.held c.act_resume.new.sink) c.in_ok-act_line.ensures.done reached) c.act_resume.ensures.done

pub returns-clause-part : goal.returns-clause-part
returns-clause-part g c = on_err_map c.act_resume.result _ _ (λ halted. halted_then (running c.args.sessions.now (lists_now (meanings g.N.Node.named g.N.Node.trail g.N.Node.explains g.N.Node.leaves g.N.Node.last) (meanings g.M.Node.named g.M.Node.trail g.M.Node.explains g.M.Node.leaves g.M.Node.last) c.args.nodes.now)) (running c.act_line.new.sessions (lists_now (meanings g.N.Node.named g.N.Node.trail g.N.Node.explains g.N.Node.leaves g.N.Node.last) (meanings g.M.Node.named g.M.Node.trail g.M.Node.explains g.M.Node.leaves g.M.Node.last) c.act_line.new.nodes)) (running c.act_resume.new.sessions (lists_now (meanings g.N.Node.named g.N.Node.trail g.N.Node.explains g.N.Node.leaves g.N.Node.last) (meanings g.M.Node.named g.M.Node.trail g.M.Node.explains g.M.Node.leaves g.M.Node.last) c.act_resume.new.nodes)) (does c.args.number c.args.said ∷ []) (resumes ∷ []) (g.O.Sink.held c.args.sink.now) (g.O.Sink.held c.act_line.new.sink) (g.O.Sink.held c.act_resume.new.sink) c.in_ok-act_line.ensures.done halted) c.act_resume.ensures.part

pub returns-clause-goes : goal.returns-clause-goes
returns-clause-goes g c = onward_then _ _ _ _ c.act_line.ensures.goes c.act_resume.ensures.goes

pub returns-clause-cause : goal.returns-clause-cause
returns-clause-cause g c = stops_later _ _ _ _ c.act_line.ensures.cause.later c.act_resume.ensures.cause
