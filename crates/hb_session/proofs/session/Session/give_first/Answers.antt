use Rattle.std.proofs.Common.{ap, ◌∙◌, subst}
use Rattle.hb_session.specs.Sitting.{Sitting}
use Rattle.hb_session.specs.Steps.{Gives}
use Rattle.hb_session.specs.declared.stage.Stage.TheVariants as stage
use Rattle.hb_session.specs.contracts.session.Session.{the_view}
use Rattle.hb_session.proofs.Begins.{first_given}
use Rattle.hb_session.proofs.session.Session.give_first.Goals as goal

pub returns-clause-given : goal.returns-clause-given
returns-clause-given c =
    let old : Sitting = the_view c.self.inside in
    let new : Sitting = record old { stage = stage.Begins (record { statement = c.args.statement }) } in
    subst (λ s. Gives s new c.args.statement) c.self.view_is
    (first_given old c.args.statement (ap (λ s. s.stage) c.self.view_is ∙ c.requires.stage))
