-- Places with a row, or with room for one, by ascending place.
use Rattle.std.specs.Prelude.{ℕ, List, [], ◌∷◌, Option, Some, None, IfSome}
use Rattle.std.specs.List.Sorted.{IsStrictlySortedBy}
use Rattle.std.specs.Map.{lookup, keys_of}
use Rattle.hb_types.specs.declared.change.Stored.{Stored}
use Rattle.hb_types.specs.declared.places.Place.{Place}
use Rattle.hb_types.specs.Places.{place_cmp, same_place, IsPlace}
use Rattle.hb_types.specs.Rows.{IsRow}
use Rattle.hb_whole.specs.declared.map.Slot.{Slot}

abbrev pub Entries : Type 0
Entries = List (Place × Slot)

abbrev pub AreOrdered : Entries → Type 0
AreOrdered es = IsStrictlySortedBy place_cmp (keys_of es)

abbrev pub slot_at : Entries → Place → Option Slot
slot_at es place = lookup (same_place place) es

abbrev pub row_in : Option Slot → Option (List ℕ)
row_in None = None
row_in (Some slot) = slot.row

abbrev pub room_in : Option Slot → ℕ
room_in None = 0
room_in (Some slot) = slot.room

-- the rows
abbrev pub rows_of : Entries → List Stored
rows_of [] = []
rows_of (e ∷ es) = with_first e.0 e.1.row (rows_of es)
  where
    with_first : Place → Option (List ℕ) → List Stored → List Stored
    with_first place None rows = rows
    with_first place (Some row) rows = record { place = place; row = row } ∷ rows

-- the room at a place
abbrev pub room_at : Entries → Place → ℕ
room_at es place = room_in (slot_at es place)

-- a slot that may stand at a place
abbrev pub IsSlot : Place → Slot → Type 0
IsSlot place slot = IsPlace place × IfSome slot.row IsRow

-- the places are places, and the rows are rows
abbrev pub AreSound : Entries → Type 0
AreSound es = (place : Place) → IfSome (slot_at es place) (IsSlot place)
