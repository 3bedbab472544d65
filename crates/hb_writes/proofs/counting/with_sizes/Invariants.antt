use Rattle.std.proofs.Common.{◌≡◌, ◌+◌, take}
use Rattle.hb_talk.specs.Plans.{sizes}
use Rattle.hb_writes.proofs.counting.with_sizes.Given as goal

abbrev pub invariant-loop-change : goal.invariant-loop-change
invariant-loop-change l = l.bytes ≡ l.before + sizes (take l.change-index l.changes)
