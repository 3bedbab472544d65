use Rattle.hb_sessionlaws.proofs.Lives.{lives_obey}
use Rattle.hb_sessionlaws.proofs.laws.lives_obey.Goals as goal

pub returns : goal.returns
returns c = λ old new front calls k i b s e. lives_obey old new front calls k i b s e
