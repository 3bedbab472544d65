use Rattle.hb_sessionlaws.proofs.SessionCalls.{ended_sessions_obey}
use Rattle.hb_sessionlaws.proofs.laws.ended_sessions_obey.Goals as goal

pub returns : goal.returns
returns c = ended_sessions_obey c.ends_follow.ensures
