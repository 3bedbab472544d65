use Rattle.hb_serverlaws.proofs.Recording.{commits_stand as holds}
use Rattle.hb_serverlaws.proofs.laws.commits_stand.Goals as goal

pub returns : goal.returns
returns c = holds
