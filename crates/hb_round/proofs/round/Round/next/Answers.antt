use Rattle.hb_round.proofs.Steps.{next_on}
use Rattle.hb_round.proofs.round.Round.next.Goals as goal

pub returns-clause-next : goal.returns-clause-next
returns-clause-next c = next_on _ _ _ _ c.self.view_is c.next.ensures.next
