use Rattle.std.proofs.Common.{◌≡◌, ap, refl, sym, subst}
use Rattle.hb_wait.specs.declared.pending.Pending.TheVariants as pending
use Rattle.hb_turn.specs.Steps.{Makes, Stepped}
use Rattle.hb_turn.specs.declared.turn.Went.TheVariants as went
use Rattle.hb_turn.specs.declared.stage.Asking.{Asking}
use Rattle.hb_turn.specs.declared.stage.Stage.TheVariants as stage
use Rattle.hb_turn.proofs.Calls.{answered_call, waits_call, more_call}
use Rattle.hb_turn.proofs.turn.Turn.ask.Goals as goal

pub returns-in-Answered-clause-stepped : goal.returns-in-Answered-clause-stepped
returns-in-Answered-clause-stepped g c =
    let r = c.parts-plan.result in
    let t = c.args.self.now in
    let e : Asking = record { plan = r.0; group = r.1; pending = r.2 } in
    let same : e ≡ c.args.asking = ap (λ x. record { plan = x.0; group = x.1; pending = x.2 }) c.parts-plan.ensures in
    let h = c.in-Answered.ensures.heard in
    let carried = c.take.ensures in
    record {
      line = carried.line;
      leaves = carried.leaves;
      steps = (
        r.2,
        h.0,
        h.1,
        h.2,
        subst (λ x. Makes (record t { stage = stage.Asks x }) c.take.new.self r.2 h.0 c.take.result) same
            (answered_call t c.take.new.self e h.0 c.in-Answered.answer c.take.result (sym h.3) carried),
      );
    }

pub returns-in-Waits-clause-stepped : goal.returns-in-Waits-clause-stepped
returns-in-Waits-clause-stepped g c =
    let r = c.parts-plan.result in
    let t = c.args.self.now in
    let e : Asking = record { plan = r.0; group = r.1; pending = r.2 } in
    let same : e ≡ c.args.asking = ap (λ x. record { plan = x.0; group = x.1; pending = x.2 }) c.parts-plan.ensures in
    let h = c.in-Waits.ensures.heard in
    let w = went.Waits c.in-Waits.edges in
    subst (λ n. Stepped (record t { stage = stage.Asks c.args.asking }) n (g.N.Nodes.lists c.args.nodes.now) (g.N.Nodes.lists c.ask.new.nodes) w) (sym c.hold.ensures)
    (record {
      line = refl;
      leaves = refl;
      steps = (r.2, h.0, h.1, h.2, subst (λ x. Makes (record t { stage = stage.Asks x }) (record t { stage = stage.Asks (record { plan = r.0; group = r.1; pending = pending.Waits c.in-Waits.lock }) }) r.2 h.0 w) same (waits_call t e h.0 c.in-Waits.lock c.in-Waits.edges (sym h.3)));
    })

pub returns-in-More-clause-stepped : goal.returns-in-More-clause-stepped
returns-in-More-clause-stepped g c =
    let r = c.parts-plan.result in
    let t = c.args.self.now in
    let e : Asking = record { plan = r.0; group = r.1; pending = r.2 } in
    let same : e ≡ c.args.asking = ap (λ x. record { plan = x.0; group = x.1; pending = x.2 }) c.parts-plan.ensures in
    let h = c.in-More.ensures.heard in
    subst (λ n. Stepped (record t { stage = stage.Asks c.args.asking }) n (g.N.Nodes.lists c.args.nodes.now) (g.N.Nodes.lists c.ask.new.nodes) went.More) (sym c.hold-in-More.ensures)
    (record {
      line = refl;
      leaves = refl;
      steps = (r.2, h.0, h.1, h.2, subst (λ x. Makes (record t { stage = stage.Asks x }) (record t { stage = stage.Asks (record { plan = r.0; group = r.1; pending = c.in-More.pending }) }) r.2 h.0 went.More) same (more_call t e h.0 c.in-More.pending (sym h.3)));
    })
