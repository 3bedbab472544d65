use Rattle.hb_session.proofs.Following.{transactions_follow}
use Rattle.hb_session.proofs.laws.transactions_follow.Goals as goal

pub returns : goal.returns
returns c = λ old last new st given calls replies idle runs p a r h. transactions_follow old last new st given calls replies idle runs p a r h
