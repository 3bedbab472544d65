use Rattle.hb_movelaws.proofs.Found.{check_told}
use Rattle.hb_movelaws.proofs.laws.check_tells.Goals as goal

pub returns : goal.returns
returns c = check_told
