use Rattle.hb_loglaws.proofs.Saying.{right_logs_say as holds}
use Rattle.hb_loglaws.proofs.laws.right_logs_say.Goals as goal

pub returns : goal.returns
returns c = holds
