use Rattle.std.proofs.Common.{ap, refl, sym, ◌∙◌, subst}
use Rattle.hb_node.specs.Lists.{here, onward, OneMore}
use Rattle.hb_turn.specs.Turning.{counted, in_transaction, Turning}
use Rattle.hb_types.specs.declared.answer.Answer.TheVariants as answer
use Rattle.hb_types.specs.declared.request.Request.TheVariants as request
use Rattle.hb_wait.specs.declared.pending.Pending.TheVariants as pending
use Rattle.hb_turn.specs.Steps.{Stepped}
use Rattle.hb_turn.specs.declared.stage.Stage.TheVariants as stage
use Rattle.hb_turn.specs.declared.turn.Went.TheVariants as went
use Rattle.hb_turn.proofs.Calls.{begun_call, not_begun_call}
use Rattle.hb_turn.proofs.turn.Turn.begin.Goals as goal

pub returns-in-Begun-clause-stepped : goal.returns-in-Begun-clause-stepped
returns-in-Begun-clause-stepped g c =
    let t = c.args.self.now in
    let tx = c.in-Begun.tx in
    let n = c.saturating_add.result in
    subst (λ x. Stepped (record t { stage = stage.Begins c.args.task }) x (g.N.Nodes.lists c.args.nodes.now) (g.N.Nodes.lists c.ask.new.self) went.More) (sym c.enter_next.ensures)
    (record {
      line = refl;
      leaves = refl;
      steps = (
        pending.Asks (record { 0 = 0 }) (request.Begin (record { session = t.line.session; nth = n })),
        answer.Begun tx,
        c.in-Begun.ensures.well_formed,
        subst (λ (x : Turning). OneMore (g.N.Nodes.lists c.args.nodes.now) (g.N.Nodes.lists c.ask.new.self) 0 (request.Begin (record { session = x.line.session; nth = n })) (answer.Begun tx)) c.self.view_is c.in-Begun.ensures.one_more,
        begun_call t c.args.task n tx (c.saturating_add.ensures ∙ ap (λ (x : Turning). counted x.begun) c.self.view_is),
      );
    })

pub returns-in_default-clause-stepped : goal.returns-in_default-clause-stepped
returns-in_default-clause-stepped g c =
    let t = c.args.self.now in
    let n = c.saturating_add.result in
    record {
      line = refl;
      leaves = (c.requires.stage, tt);
      steps = (
        pending.Asks (record { 0 = 0 }) (request.Begin (record { session = t.line.session; nth = n })),
        c.ask.result,
        c.ask.ensures.well_formed,
        subst (λ (x : Turning). OneMore (g.N.Nodes.lists c.args.nodes.now) (g.N.Nodes.lists c.ask.new.self) 0 (request.Begin (record { session = x.line.session; nth = n })) c.ask.result) c.self.view_is c.ask.ensures.one_more,
        not_begun_call t c.args.task n c.ask.result c.refusal.result (c.saturating_add.ensures ∙ ap (λ (x : Turning). counted x.begun) c.self.view_is) c.in_default.not-Begun c.refusal.ensures (ap in_transaction c.requires.stage),
      );
    }

pub returns-in-Begun-clause-goes : goal.returns-in-Begun-clause-goes
returns-in-Begun-clause-goes g c = onward _ _ here c.ask.ensures.goes

pub returns-in_default-clause-goes : goal.returns-in_default-clause-goes
returns-in_default-clause-goes g c = onward _ _ here c.ask.ensures.goes
