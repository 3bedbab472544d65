use Rattle.std.proofs.Common.{◌≡◌}
use Rattle.hb_planrows.specs.PlanRows.{rows_in}
use Rattle.hb_endings.proofs.inserting.only_rows.Given as goal

abbrev pub invariant-loop-row : goal.invariant-loop-row
invariant-loop-row l = l.rows ≡ rows_in l.yielded
