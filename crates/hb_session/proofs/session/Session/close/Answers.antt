use Rattle.std.proofs.Common.{sym, ap, ◌∙◌, subst}
use Rattle.hb_session.specs.Sitting.{Sitting}
use Rattle.hb_session.specs.Steps.{Closes}
use Rattle.hb_session.proofs.session.Session.close.Goals as goal

pub returns-in-Open-clause-closes : goal.returns-in-Open-clause-closes
returns-in-Open-clause-closes c =
    let new = c.roll_back.new.self in
    subst (λ st. Closes st new) (sym c.in-Open.is ∙ ap (λ (s : Sitting). s.stage) c.self.view_is) c.roll_back.ensures.rolls
