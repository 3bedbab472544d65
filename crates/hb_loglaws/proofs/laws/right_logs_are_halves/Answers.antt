use Rattle.hb_loglaws.proofs.Saying.{right_logs_are_halves as holds}
use Rattle.hb_loglaws.proofs.laws.right_logs_are_halves.Goals as goal

pub returns : goal.returns
returns c = holds
