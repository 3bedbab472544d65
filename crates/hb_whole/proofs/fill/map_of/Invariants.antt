use Rattle.std.proofs.Common.{◌≡◌, ◌++◌, length}
use Rattle.hb_types.specs.declared.places.Place.{Place}
use Rattle.hb_whole.specs.Slots.{AreOrdered, AreSound, rows_of, room_at}
use Rattle.hb_whole.proofs.fill.map_of.Given as goal

abbrev pub invariant-loop-row : goal.invariant-loop-row
invariant-loop-row l = record {
  rows : l.left ++ rows_of l.map.entries ≡ l.fn.rows;
  bare : (q : Place) → room_at l.map.entries q ≡ 0;
  sound : AreSound l.map.entries;
  ordered : AreOrdered l.map.entries;
}

abbrev pub decreases-loop-row : goal.decreases-loop-row
decreases-loop-row l = length l.left
