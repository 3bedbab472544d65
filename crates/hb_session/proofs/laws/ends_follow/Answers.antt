use Rattle.hb_session.proofs.Following.{ends_follow}
use Rattle.hb_session.proofs.laws.ends_follow.Goals as goal

pub returns : goal.returns
returns c = λ old last new given calls replies runs p a r h. ends_follow old last new given calls replies runs p a r h
