use Rattle.std.proofs.Common.{refl}
use Rattle.hb_round.proofs.Steps.{enters, leaves}
use Rattle.hb_round.proofs.round.Round.go_on.Goals as goal

pub returns-in-Some : goal.returns-in-Some
returns-in-Some c = enters _ _ _ _ _ _ _ c.self.view_is c.in-Some.ensures.area c.goal.ensures c.usage.ensures c.lock.ensures.usage c.lock.ensures.asking c.lock.ensures.talk

pub returns-in-None : goal.returns-in-None
returns-in-None c = leaves _ _ _ _ c.self.view_is c.in-None.ensures.area c.replace.ensures.value refl
