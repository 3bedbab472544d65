use Rattle.std.proofs.Common.{◌≡◌, ◌++◌, take}
use Rattle.hb_branch.proofs.merge.copy_all.Given as goal

abbrev pub invariant-loop-row : goal.invariant-loop-row
invariant-loop-row l = l.found ≡ l.initial.found ++ take l.row-index l.rows
