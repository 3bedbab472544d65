use Rattle.std.proofs.Common.{◌≡◌, ◌+◌, take}
use Rattle.hb_types.specs.declared.places.Place.{Place}
use Rattle.hb_store.specs.Meanings.{count_at}
use Rattle.hb_whole.specs.Slots.{rows_of, room_at, AreSound}
use Rattle.hb_whole.proofs.rooms.give_back.Given as goal

-- the room for the changes so far is given back
abbrev pub invariant-loop-change : goal.invariant-loop-change
invariant-loop-change l = ((q : Place) → room_at l.fn.map.entries q ≡ room_at l.map.entries q + count_at q (take l.change-index l.changes))
    × (rows_of l.map.entries ≡ rows_of l.fn.map.entries) × AreSound l.map.entries
