use Rattle.hb_moveplan.proofs.Steps.{finish_next}
use Rattle.hb_moveplan.proofs.finish.Finish.next.Goals as goal

pub returns-clause-next : goal.returns-clause-next
returns-clause-next c = finish_next _ _ _ _ c.self.view_is c.next.ensures.next
