use Rattle.hb_loglaws.proofs.Lookups.{redo_is_of_commits as holds}
use Rattle.hb_loglaws.proofs.laws.redo_is_of_commits.Goals as goal

pub returns : goal.returns
returns c = holds
