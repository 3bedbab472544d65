use Rattle.hb_serverlaws.proofs.Recording.{records_were_asked as holds}
use Rattle.hb_serverlaws.proofs.laws.records_were_asked.Goals as goal

pub returns : goal.returns
returns c = holds
