use Rattle.hb_session.proofs.Following.{runs_follow}
use Rattle.hb_session.proofs.laws.runs_follow.Goals as goal

pub returns : goal.returns
returns c = λ old new given calls replies runs sts cs rs f. runs_follow old new given calls replies runs sts cs rs f
