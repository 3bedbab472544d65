use Rattle.hb_moveplan.proofs.Steps.{check_next}
use Rattle.hb_moveplan.proofs.check.Check.next.Goals as goal

pub returns-clause-next : goal.returns-clause-next
returns-clause-next c = check_next _ _ _ _ c.self.view_is c.next.ensures.next
