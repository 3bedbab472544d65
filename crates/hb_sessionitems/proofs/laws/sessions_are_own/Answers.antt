use Rattle.hb_sessionitems.proofs.Owning.{sessions_own}
use Rattle.hb_sessionitems.proofs.laws.sessions_are_own.Goals as goal

pub returns : goal.returns
returns c = sessions_own
