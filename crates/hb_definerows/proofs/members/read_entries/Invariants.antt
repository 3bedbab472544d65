use Rattle.std.proofs.Common.{◌≡◌, take}
use Rattle.hb_talk.specs.PlansDefine.{entries_of}
use Rattle.hb_planrows.specs.PlanRows.{TellEntries}
use Rattle.hb_definerows.proofs.members.read_entries.Given as goal

abbrev pub invariant-loop-row : goal.invariant-loop-row
invariant-loop-row l = TellEntries l.fn.rows → l.entries.items ≡ entries_of (take l.row-index l.fn.rows)
