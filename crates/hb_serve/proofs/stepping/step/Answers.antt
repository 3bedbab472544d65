use Rattle.std.proofs.Common.{◌≤◌, ◌<◌, sym, ◌∙◌, ap, subst, arith}
use Rattle.std.specs.Prelude.{None}
use Rattle.hb_model.specs.declared.reply.Reply.{Reply}
use Rattle.hb_node.specs.Lists.{here}
use Rattle.hb_stepper.specs.Running.{running}
use Rattle.hb_stepper.specs.Steps.{line_of}
use Rattle.hb_serve.specs.declared.own.Own.{Own}
use Rattle.hb_serve.specs.declared.own.Own.TheVariants as own
use Rattle.hb_serve.specs.Doing.{Steps, full, most_sessions}
use Rattle.hb_serve.proofs.Telling.{tells}
use Rattle.hb_serve.proofs.stepping.step.Goals as goal

pub returns-in_err-place-clause-goes : goal.returns-in_err-place-clause-goes
returns-in_err-place-clause-goes g c = here

pub returns-then-place-ge-MOST-clause-steps : goal.returns-then-place-ge-MOST-clause-steps
returns-then-place-ge-MOST-clause-steps g c =
    let P : Own → Type 0 = λ o. Steps (running c.args.sessions.now (g.N.Nodes.lists c.args.nodes.now)) c.args.name.now c.args.most o (running c.place_of.new.self (g.N.Nodes.lists c.args.nodes.now)) in
    let behind : most_sessions ≤ c.in_ok-place.place = omega (arith, c.if-place-ge-MOST.true) in
    subst P (sym c.own_line.ensures) (full c.in_ok-place.place _ (c.in_ok-place.ensures.named (g.N.Nodes.lists c.args.nodes.now)) behind)

pub returns-clause-steps : goal.returns-clause-steps
returns-clause-steps g c =
    let P : Own → Type 0 = λ o. Steps (running c.args.sessions.now (g.N.Nodes.lists c.args.nodes.now)) c.args.name.now c.args.most o (running c.advance.new.self (g.N.Nodes.lists c.advance.new.nodes)) in
    let few : c.in_ok-place.place < most_sessions = omega (arith, c.if-place-ge-MOST.false) in
    subst P (sym (c.own_line-2.ensures ∙ ap (λ (r : Reply). own.Line (line_of c.in_ok-place.place None r)) c.reply_of.ensures))
    (tells (running c.args.sessions.now (g.N.Nodes.lists c.args.nodes.now)) (running c.place_of.new.self (g.N.Nodes.lists c.args.nodes.now)) (running c.advance.new.self (g.N.Nodes.lists c.advance.new.nodes)) c.args.name.now c.in_ok-place.place c.args.most c.in_ok-made.made
    (c.in_ok-place.ensures.named (g.N.Nodes.lists c.args.nodes.now)) c.in_ok-made.ensures.advanced few c.requires)
