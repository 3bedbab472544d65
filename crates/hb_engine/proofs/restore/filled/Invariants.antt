use Rattle.std.proofs.Common.{◌≡◌, take}
use Rattle.hb_engine.proofs.restore.filled.Given as goal

-- the changes so far are put
abbrev pub invariant-loop-change : goal.invariant-loop-change
invariant-loop-change l = l.branch.changes ≡ take l.change-index l.changes
