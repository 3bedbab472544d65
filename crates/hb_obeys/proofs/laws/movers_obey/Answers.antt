use Rattle.hb_obeys.proofs.Moving.{movers_obey}
use Rattle.hb_obeys.proofs.laws.movers_obey.Goals as goal

pub returns : goal.returns
returns c = λ m left nth hints front cs next b e. movers_obey m left nth hints front cs next b e
