use Rattle.hb_checks.proofs.Numbers.{chains_stay}
use Rattle.hb_checks.proofs.laws.chains_keep_numbers.Goals as goal

pub returns : goal.returns
returns c = chains_stay c.steps_keep_numbers.ensures
