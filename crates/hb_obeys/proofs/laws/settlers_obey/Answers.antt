use Rattle.hb_obeys.proofs.Settling.{settlers_obey}
use Rattle.hb_obeys.proofs.laws.settlers_obey.Goals as goal

pub returns : goal.returns
returns c = λ session node u front cs b. settlers_obey session node u front cs b
