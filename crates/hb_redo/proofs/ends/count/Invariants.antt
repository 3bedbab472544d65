use Rattle.std.proofs.Common.{take}
use Rattle.hb_redo.specs.Damage.{items_of}
use Rattle.hb_redo.specs.Stages.{CountsEnds}
use Rattle.hb_redo.proofs.ends.count.Given as goal

-- the ends so far are counted
abbrev pub invariant-loop-record : goal.invariant-loop-record
invariant-loop-record l = CountsEnds l.ends (items_of (take l.record-index l.records))
