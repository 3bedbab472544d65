use Rattle.std.proofs.Common.{◌≡◌, take}
use Rattle.hb_types.specs.Lists.{Each}
use Rattle.hb_talk.specs.Plans.{areas_of_routes}
use Rattle.hb_planrows.specs.PlanRows.{TellEntries, IsSited}
use Rattle.hb_planrows.proofs.entries.areas_in_rows.Given as goal

abbrev pub invariant-loop-row : goal.invariant-loop-row
invariant-loop-row l = (TellEntries l.fn.rows → l.areas.items ≡ areas_of_routes (take l.row-index l.fn.rows)) × Each IsSited l.areas.items
