use Rattle.hb_serverlaws.proofs.Recording.{votes_stand as holds}
use Rattle.hb_serverlaws.proofs.laws.votes_stand.Goals as goal

pub returns : goal.returns
returns c = holds
