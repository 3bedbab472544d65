use Rattle.hb_sessionlaws.proofs.SessionCalls.{sessions_obey}
use Rattle.hb_sessionlaws.proofs.laws.sessions_obey.Goals as goal

pub returns : goal.returns
returns c = sessions_obey c.runs_follow.ensures
