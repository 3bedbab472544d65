use Rattle.hb_lives.proofs.Lives.{lives_stretches}
use Rattle.hb_lives.proofs.laws.lives_are_stretches.Goals as goal

pub returns : goal.returns
returns c = lives_stretches
