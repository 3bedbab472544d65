use Rattle.hb_lives.proofs.Unfinished.{cut_commits_bare}
use Rattle.hb_lives.proofs.laws.cut_commits_are_bare.Goals as goal

pub returns : goal.returns
returns c = cut_commits_bare
