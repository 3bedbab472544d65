use Rattle.hb_wait.proofs.Following.{leads}
use Rattle.hb_wait.proofs.laws.waits_follow.Goals as goal

pub returns : goal.returns
returns c = λ course p a next is. leads course p a next is
