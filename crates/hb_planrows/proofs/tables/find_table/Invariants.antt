use Rattle.std.proofs.Common.{◌≡◌, drop}
use Rattle.hb_model.specs.Told.{table_among}
use Rattle.hb_planrows.specs.PlanRows.{TellTables}
use Rattle.hb_planrows.proofs.tables.find_table.Given as goal

abbrev pub invariant-loop-row : goal.invariant-loop-row
invariant-loop-row l = TellTables l.fn.rows → table_among l.fn.rows l.fn.name ≡ table_among (drop l.row-index l.fn.rows) l.fn.name
