use Rattle.hb_obeys.proofs.Sessions.{transactions_obey}
use Rattle.hb_obeys.proofs.laws.transactions_obey.Goals as goal

pub returns : goal.returns
returns c = λ back_ends session owner sts front cs next b e. transactions_obey back_ends session owner sts front cs next b e
