use Rattle.std.proofs.Common.{take}
use Rattle.hb_types.specs.Lists.{Each}
use Rattle.hb_disks.specs.StandsFor.{IsCoordinators}
use Rattle.hb_coord.specs.Memory.{Knows}
use Rattle.hb_coord.specs.Standing.{items_of}
use Rattle.hb_coord.proofs.start.read_all.Given as goal

abbrev pub invariant-records : goal.invariant-records
invariant-records l = Knows (items_of (take l.record-index l.records)) l.recorded × Each IsCoordinators (items_of (take l.record-index l.records))
