use Rattle.hb_moveplan.specs.declared.plan.Plan.TheVariants as plan
use Rattle.hb_moveplan.proofs.Steps.{check_came, check_keeps, check_more, check_refused}
use Rattle.hb_moveplan.proofs.check.Check.take.Goals as goal

pub returns-in-More-clause-hears : goal.returns-in-More-clause-hears
returns-in-More-clause-hears c = λ _. check_more _ _ _ _ c.self.view_is c.in-More.ensures.hears

pub returns-in-Refused-clause-hears : goal.returns-in-Refused-clause-hears
returns-in-Refused-clause-hears c = λ _. check_refused _ _ c.take.new.self _ _ c.self.view_is c.in-Refused.ensures.hears

pub returns-in-Came-clause-hears : goal.returns-in-Came-clause-hears
returns-in-Came-clause-hears c =
    let s = c.self.inside in
    λ told. check_came _ (record { access = s.access; name = s.name; table = s.table }) (plan.Check c.come.new.self) c.take.new.self _ _ _
    c.self.view_is c.in-Came.ensures.hears c.in-Came.ensures.brings c.come.ensures.goes told

pub returns-in-Came-clause-used : goal.returns-in-Came-clause-used
returns-in-Came-clause-used c =
    let s = c.self.inside in
    check_keeps _ (record { access = s.access; name = s.name; table = s.table }) (plan.Check c.come.new.self) c.take.new.self _
    c.self.view_is c.in-Came.ensures.used c.come.ensures.stays
