use Rattle.hb_checks.proofs.Numbers.{steps_stay}
use Rattle.hb_checks.proofs.laws.steps_keep_numbers.Goals as goal

pub returns : goal.returns
returns c = steps_stay c.names_stay.ensures
