use Rattle.hb_sessionitems.proofs.Owning.{closed_sessions_own}
use Rattle.hb_sessionitems.proofs.laws.closed_sessions_are_own.Goals as goal

pub returns : goal.returns
returns c = closed_sessions_own
