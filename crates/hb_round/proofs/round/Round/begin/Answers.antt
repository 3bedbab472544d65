use Rattle.hb_round.proofs.Steps.{begins}
use Rattle.hb_round.proofs.round.Round.begin.Goals as goal

pub returns-in-Some : goal.returns-in-Some
returns-in-Some c = begins _ _ _ _ _ _ _ _ c.in-Some.ensures.area c.goal.ensures c.new.ensures c.lock.ensures.usage c.lock.ensures.asking c.lock.ensures.talk
