use Rattle.hb_loglaws.proofs.Cover.{cover}
use Rattle.hb_loglaws.proofs.laws.locks_exclude.Goals as goal

pub returns : goal.returns
returns c = cover
