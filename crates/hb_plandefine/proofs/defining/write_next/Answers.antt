use Rattle.hb_plandefine.proofs.Standing.{next_written}
use Rattle.hb_plandefine.proofs.defining.write_next.Goals as goal

pub returns-clause-next : goal.returns-clause-next
returns-clause-next c = next_written c.args.writing.now c.next.new.self c.next.result c.next.ensures.next
