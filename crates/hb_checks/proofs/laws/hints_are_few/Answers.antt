use Rattle.hb_checks.proofs.Hints.{hints_few}
use Rattle.hb_checks.proofs.laws.hints_are_few.Goals as goal

pub returns : goal.returns
returns c = hints_few
