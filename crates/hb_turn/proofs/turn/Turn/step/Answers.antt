use Rattle.std.proofs.Common.{◌≡◌, ap, ◌∙◌, subst}
use Rattle.hb_turn.specs.Turning.{Turning}
use Rattle.hb_turn.specs.Steps.{Stepped}
use Rattle.hb_turn.specs.contracts.turn.Turn.{the_view}
use Rattle.hb_turn.proofs.turn.Turn.step.Goals as goal

pub returns-clause-stepped : goal.returns-clause-stepped
returns-clause-stepped g c =
    let old : Turning = the_view c.self.inside in
    let same : record old { stage = c.replace-stage.result } ≡ c.args.self.now = ap (λ x. record old { stage = x }) c.replace-stage.ensures.value ∙ c.self.view_is in
    subst (λ s. Stepped s c.step_from.new.self (g.N.Nodes.lists c.args.nodes.now) (g.N.Nodes.lists c.step_from.new.nodes) c.step_from.result) same c.step_from.ensures.stepped
