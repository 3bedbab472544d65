use Rattle.hb_coordlaws.proofs.Answered.{faulted_is_final as holds}
use Rattle.hb_coordlaws.proofs.laws.faulted_is_final.Goals as goal

pub returns : goal.returns
returns c = holds
