use Rattle.std.proofs.Common.{◌≡◌, ◌+◌, ◌≤◌, ◌-◌, length, take}
use Rattle.hb_types.specs.declared.places.Place.{Place}
use Rattle.hb_store.specs.Meanings.{count_at}
use Rattle.hb_whole.specs.Slots.{rows_of, room_at, AreSound}
use Rattle.hb_whole.proofs.rooms.make_room.Given as goal

-- there is room for the changes so far
abbrev pub invariant-loop-at : goal.invariant-loop-at
invariant-loop-at l = (l.at ≤ length l.changes) × ((q : Place) → room_at l.map.entries q ≡ room_at l.fn.map.entries q + count_at q (take l.at l.changes))
    × (rows_of l.map.entries ≡ rows_of l.fn.map.entries) × AreSound l.map.entries

abbrev pub decreases-loop-at : goal.decreases-loop-at
decreases-loop-at l = length l.changes - l.at
