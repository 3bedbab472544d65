use Rattle.std.proofs.Common.{◌≡◌, take}
use Rattle.hb_engine.proofs.ends.copied.Given as goal

abbrev pub invariant-loop-change : goal.invariant-loop-change
invariant-loop-change l = l.copy ≡ take l.change-index l.changes
