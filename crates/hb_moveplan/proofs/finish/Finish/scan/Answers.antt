use Rattle.hb_moveplan.proofs.Steps.{scans}
use Rattle.hb_moveplan.proofs.finish.Finish.scan.Goals as goal

pub returns : goal.returns
returns c = scans _ _ _ _ _ c.self.view_is c.usage.ensures c.lock.ensures.usage c.lock.ensures.asking c.lock.ensures.talk c.group_goal-goal.ensures
