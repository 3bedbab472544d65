use Rattle.hb_sessionlaws.proofs.Lives.{steps_sit}
use Rattle.hb_sessionlaws.proofs.laws.steps_sit.Goals as goal

pub returns : goal.returns
returns c = λ old new before after shows h kept. steps_sit old new before after shows h kept
