use Rattle.hb_faithful.proofs.Does.{plan_does}
use Rattle.hb_faithful.proofs.Faithfuls.{plan_faithful}
use Rattle.hb_faithful.proofs.laws.plans_are_faithful.Goals as goal

pub returns : goal.returns
returns c = λ st plain. plan_faithful st (plan_does st plain)
