use Rattle.hb_coordlaws.proofs.Keeping.{log_is_kept as holds}
use Rattle.hb_coordlaws.proofs.laws.log_is_kept.Goals as goal

pub returns : goal.returns
returns c = holds
