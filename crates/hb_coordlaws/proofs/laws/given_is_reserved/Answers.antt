use Rattle.hb_coordlaws.proofs.Answered.{given_is_reserved as holds}
use Rattle.hb_coordlaws.proofs.laws.given_is_reserved.Goals as goal

pub returns : goal.returns
returns c = holds
