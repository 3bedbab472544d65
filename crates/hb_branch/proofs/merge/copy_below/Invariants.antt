use Rattle.std.proofs.Common.{◌≡◌, ◌++◌, length}
use Rattle.hb_branch.specs.Merging.{rows_below, rows_from}
use Rattle.hb_branch.proofs.merge.copy_below.Given as goal

abbrev pub invariant-loop-row : goal.invariant-loop-row
invariant-loop-row l =
    (l.found ++ rows_below l.place l.rest ≡ l.initial.found ++ rows_below l.place l.rows) × (rows_from l.place l.rest ≡ rows_from l.place l.rows)

abbrev pub decreases-loop-row : goal.decreases-loop-row
decreases-loop-row l = length l.rest
