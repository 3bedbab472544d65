use Rattle.hb_plandefine.proofs.Standing.{next_asked}
use Rattle.hb_plandefine.proofs.defining.ask_next.Goals as goal

pub returns-clause-next : goal.returns-clause-next
returns-clause-next c = next_asked c.args.access.now c.next.new.self c.args.then.now c.next.result c.next.ensures.next
