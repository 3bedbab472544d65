use Rattle.std.proofs.Common.{◌≡◌, true, ap, ◌∙◌, subst}
use Rattle.hb_session.specs.Sitting.{Sitting, is_ending}
use Rattle.hb_session.specs.Steps.{EndsOn, Stepped}
use Rattle.hb_session.specs.contracts.session.Session.{the_view}
use Rattle.hb_session.proofs.session.Session.step.Goals as goal

pub returns-clause-stepped : goal.returns-clause-stepped
returns-clause-stepped g c =
    let old : Sitting = the_view c.self.inside in
    let same : record old { stage = c.replace-stage.result } ≡ c.args.self.now = ap (λ x. record old { stage = x }) c.replace-stage.ensures.value ∙ c.self.view_is in
    subst (λ s. Stepped s c.step_from.new.self (g.N.Nodes.lists c.args.nodes.now) (g.N.Nodes.lists c.step_from.new.nodes) c.step_from.result) same c.step_from.ensures.stepped

pub returns-clause-ending : goal.returns-clause-ending
returns-clause-ending g c =
    let old : Sitting = the_view c.self.inside in
    let same : record old { stage = c.replace-stage.result } ≡ c.args.self.now = ap (λ x. record old { stage = x }) c.replace-stage.ensures.value ∙ c.self.view_is in
    let P : Sitting → Type 0 = λ s. is_ending s.stage ≡ true → EndsOn c.step_from.result c.step_from.new.self.stage in
    subst P same c.step_from.ensures.ending
