use Rattle.hb_sessionitems.proofs.Owning.{given_up_sessions_own}
use Rattle.hb_sessionitems.proofs.laws.given_up_sessions_are_own.Goals as goal

pub returns : goal.returns
returns c = given_up_sessions_own
