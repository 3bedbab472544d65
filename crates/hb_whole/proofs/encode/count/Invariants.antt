use Rattle.std.proofs.Common.{◌≡◌, ◌+◌, length}
use Rattle.hb_whole.specs.Slots.{rows_of}
use Rattle.hb_whole.proofs.encode.count.Given as goal

-- the rows so far and those of what is left are all
abbrev pub invariant-loop-slot : goal.invariant-loop-slot
invariant-loop-slot l = l.count + length (rows_of l.slot-iterator) ≡ length (rows_of l.map.entries)
