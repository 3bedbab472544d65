use Rattle.hb_moveplan.proofs.Steps.{writes}
use Rattle.hb_moveplan.proofs.finish.Finish.write.Goals as goal

pub returns-in-Ok : goal.returns-in-Ok
returns-in-Ok c = writes _ _ _ _ _ c.self.view_is c.usage.ensures c.write.ensures.usage c.write.ensures.asking c.write.ensures.talk c.entry_change-change.ensures.change
