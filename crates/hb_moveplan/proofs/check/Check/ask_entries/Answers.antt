use Rattle.hb_moveplan.proofs.Steps.{asks_entries, no_table}
use Rattle.hb_moveplan.proofs.check.Check.ask_entries.Goals as goal

pub returns-in-Some : goal.returns-in-Some
returns-in-Some c =
    asks_entries _ _ _ _ _ _ _ c.self.view_is c.in-Some.is c.usage.ensures c.lock.ensures.usage c.lock.ensures.asking c.lock.ensures.talk c.entries_goal.ensures

pub returns-in-None : goal.returns-in-None
returns-in-None c = no_table _ _ c.in-None.is
