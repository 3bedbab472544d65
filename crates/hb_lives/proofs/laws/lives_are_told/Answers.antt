use Rattle.hb_lives.proofs.Lives.{lives_told}
use Rattle.hb_lives.proofs.laws.lives_are_told.Goals as goal

pub returns : goal.returns
returns c = lives_told
