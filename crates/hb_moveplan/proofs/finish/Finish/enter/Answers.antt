use Rattle.hb_moveplan.specs.declared.plan.Plan.TheVariants as plan
use Rattle.hb_moveplan.proofs.Steps.{enters}
use Rattle.hb_moveplan.proofs.finish.Finish.enter.Goals as goal

pub returns-in-Ok-clause-goes : goal.returns-in-Ok-clause-goes
returns-in-Ok-clause-goes c = λ told.
    enters _ _ (plan.Finish c.enter_if.new.self) c.args.got _ _ c.self.view_is (c.in-Ok.ensures told) c.enter_if.ensures.goes
