-- What a start finds.
use Rattle.std.specs.Prelude.{List, []}
use Rattle.hb_types.specs.declared.change.Placed.{Placed}
use Rattle.hb_types.specs.declared.change.Stored.{Stored}
use Rattle.hb_types.specs.declared.names.Number.{Number}
use Rattle.hb_disks.specs.Redo.{Redone, redo_from}
use Rattle.hb_redo.specs.Damage.{items_of}

-- a point without its place in the log: its rows and floor, and no branch in doubt
abbrev pub point_with : List Stored → Number → Redone
point_with rows floor = record { rows = rows; floor = floor.0; doubts = [] }

-- redo of the records from a point with these rows and this floor
abbrev pub redone : List Stored → Number → List Placed → Redone
redone rows floor records = redo_from (point_with rows floor) (items_of records)
