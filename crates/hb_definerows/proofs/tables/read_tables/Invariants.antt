use Rattle.std.proofs.Common.{◌≡◌, take}
use Rattle.std.specs.Prelude.{filter_map}
use Rattle.hb_model.specs.Told.{found_in}
use Rattle.hb_planrows.specs.PlanRows.{TellTables}
use Rattle.hb_definerows.proofs.tables.read_tables.Given as goal

abbrev pub invariant-loop-row : goal.invariant-loop-row
invariant-loop-row l = TellTables l.fn.rows → l.tables.items ≡ filter_map found_in (take l.row-index l.fn.rows)
