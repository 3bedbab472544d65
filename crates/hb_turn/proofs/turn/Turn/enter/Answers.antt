use Rattle.std.proofs.Common.{subst}
use Rattle.hb_node.specs.Lists.{here, onward, OneMore}
use Rattle.hb_types.specs.declared.answer.Answer.TheVariants as answer
use Rattle.hb_types.specs.declared.request.Request.TheVariants as request
use Rattle.hb_access.specs.Accesses.{use_of}
use Rattle.hb_wait.specs.declared.pending.Pending.TheVariants as pending
use Rattle.hb_turn.specs.Turning.{owner, Turning}
use Rattle.hb_turn.specs.Steps.{RollsBack}
use Rattle.hb_turn.specs.declared.stage.After.TheVariants as after
use Rattle.hb_turn.proofs.Calls.{entered_call, not_entered_call}
use Rattle.hb_turn.proofs.turn.Turn.enter.Goals as goal

pub returns-in-Done-clause-stepped : goal.returns-in-Done-clause-stepped
returns-in-Done-clause-stepped g c =
    let t = c.args.self.now in
    let tx = c.args.tx in
    let carried = c.start.ensures in
    record {
      line = carried.line;
      leaves = carried.leaves;
      steps = (
        pending.Asks (record { 0 = 10 }) (request.Enter tx (owner t)),
        answer.Done,
        c.in-Done.ensures.well_formed,
        subst (λ (x : Turning). OneMore (g.N.Nodes.lists c.args.nodes.now) (g.N.Nodes.lists c.ask.new.self) 10 (request.Enter tx (owner x)) answer.Done) c.self.view_is c.in-Done.ensures.one_more,
        entered_call t c.start.new.self c.args.task tx c.start.result carried,
      );
    }

pub returns-in_default-clause-stepped : goal.returns-in_default-clause-stepped
returns-in_default-clause-stepped g c =
    let t = c.args.self.now in
    let tx = c.args.tx in
    let r = c.refusal.result in
    let e = c.roll_back.ensures in
    record {
      line = e.line;
      leaves = e.busy;
      steps = (
        pending.Asks (record { 0 = 10 }) (request.Enter tx (owner t)),
        c.ask.result,
        c.ask.ensures.well_formed,
        subst (λ (x : Turning). OneMore (g.N.Nodes.lists c.args.nodes.now) (g.N.Nodes.lists c.ask.new.self) 10 (request.Enter tx (owner x)) c.ask.result) c.self.view_is c.ask.ensures.one_more,
        not_entered_call t c.roll_back.new.self c.args.task tx c.ask.result r c.in_default.not-Done c.refusal.ensures e.begun e.active
            (subst (λ u. RollsBack (use_of u) (after.Over r) c.roll_back.new.self) c.unused.ensures e.rolls),
      );
    }

pub returns-in-Done-clause-goes : goal.returns-in-Done-clause-goes
returns-in-Done-clause-goes g c = onward _ _ here c.ask.ensures.goes

pub returns-in_default-clause-goes : goal.returns-in_default-clause-goes
returns-in_default-clause-goes g c = onward _ _ here c.ask.ensures.goes
