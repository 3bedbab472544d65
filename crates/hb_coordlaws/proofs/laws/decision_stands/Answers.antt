use Rattle.hb_coordlaws.proofs.Answered.{decision_stands as holds}
use Rattle.hb_coordlaws.proofs.laws.decision_stands.Goals as goal

pub returns : goal.returns
returns c = holds
