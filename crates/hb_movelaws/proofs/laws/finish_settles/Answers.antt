use Rattle.hb_movelaws.proofs.Finishing.{finish_settles as settles}
use Rattle.hb_movelaws.proofs.laws.finish_settles.Goals as goal

pub returns : goal.returns
returns c = settles
