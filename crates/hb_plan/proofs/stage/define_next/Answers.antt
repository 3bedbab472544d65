use Rattle.hb_plan.proofs.Parts.{define_nexts}
use Rattle.hb_plan.proofs.stage.define_next.Goals as goal

pub returns-clause-next : goal.returns-clause-next
returns-clause-next c = define_nexts c.args.plan.now c.next.new.self c.next.result c.next.ensures.next
