use Rattle.hb_moveplan.proofs.Steps.{batch_next}
use Rattle.hb_moveplan.proofs.plan.batch_next.Goals as goal

pub returns-clause-next : goal.returns-clause-next
returns-clause-next c = batch_next c.args.plan.now c.next.new.self c.next.result c.next.ensures.next
