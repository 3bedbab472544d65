use Rattle.hb_readlaws.proofs.LastWriters.{last_writers_stood as holds}
use Rattle.hb_readlaws.proofs.laws.last_writers_stood.Goals as goal

pub returns : goal.returns
returns c = holds
