use Rattle.std.proofs.Common.{refl}
use Rattle.hb_plan.specs.Planned.{planned_at}
use Rattle.hb_plan.proofs.Parts.{plan_waiting, plan_hears, plan_asks_on}
use Rattle.hb_plan.proofs.machine.Plan.take.Goals as goal

pub take-requires : goal.take-requires
take-requires c = plan_waiting c.args.self.now c.self.inside.stage c.self.view_is c.requires.waiting

pub returns-clause-hears : goal.returns-clause-hears
returns-clause-hears c =
    plan_hears c.args.self.now (planned_at c.take.new.self) c.self.inside.stage c.take.new.self c.args.answer c.take.result c.self.view_is refl c.take.ensures.hears

pub returns-clause-asking : goal.returns-clause-asking
returns-clause-asking c = plan_asks_on (planned_at c.take.new.self) c.take.new.self c.take.result refl c.take.ensures.asking
