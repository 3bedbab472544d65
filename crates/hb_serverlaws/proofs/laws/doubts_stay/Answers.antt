use Rattle.hb_serverlaws.proofs.Recording.{doubts_stay as holds}
use Rattle.hb_serverlaws.proofs.laws.doubts_stay.Goals as goal

pub returns : goal.returns
returns c = holds
