use Rattle.std.proofs.Common.{refl}
use Rattle.hb_plan.specs.Planned.{planned_at}
use Rattle.hb_plan.proofs.Parts.{plan_asking, plan_nexts}
use Rattle.hb_plan.proofs.machine.Plan.next.Goals as goal

pub next-requires : goal.next-requires
next-requires c = plan_asking c.args.self.now c.self.inside.stage c.self.view_is c.requires

pub returns-clause-next : goal.returns-clause-next
returns-clause-next c =
    plan_nexts c.args.self.now (planned_at c.next.new.self) c.self.inside.stage c.next.new.self c.next.result c.self.view_is refl c.next.ensures.next
