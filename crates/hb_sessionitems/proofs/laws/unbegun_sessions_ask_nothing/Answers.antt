use Rattle.hb_sessionitems.proofs.Owning.{unbegun_sessions_nothing}
use Rattle.hb_sessionitems.proofs.laws.unbegun_sessions_ask_nothing.Goals as goal

pub returns : goal.returns
returns c = unbegun_sessions_nothing
