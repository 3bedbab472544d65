-- Reading changes by ascending place, as long as there are places and bytes for those that are left.
use Rattle.std.specs.Prelude.{ℕ, ◌+◌, ◌-◌, ◌*◌, min, Bool, nat_lt, nat_le, ◌==◌, ◌&&◌, ◌||◌, if◌then◌else◌, List, length, take, Option, Some, None, Result, Ok}
use Rattle.hb_types.specs.declared.change.Change.{Change}
use Rattle.hb_types.specs.Records.{change_bytes}
use Rattle.hb_codec.specs.declared.changes.Slot.{Slot}
use Rattle.hb_codec.specs.Readers.{◌>>=◌, byte_in, number_in, most_above, behind}
use Rattle.hb_codec.specs.RowReaders.{row_in}
use Rattle.hb_codec.specs.PlaceReaders.{place_rank, places, place_in}

-- a row has 2 bytes, or from 4 on: the least second byte of its length, behind a first
abbrev pub pages : ℕ → ℕ
pages b = if nat_le 4 b || (b == 2) then 0 else 1

abbrev pub length_fits : ℕ → ℕ → Bool
length_fits high b = nat_lt b 256 && nat_le (b + 256 * pages b) high

unfoldable pub row_length_in : ℕ → List ℕ → Result (ℕ × List ℕ) ℕ
row_length_in high bytes = do
  low ← byte_in (length_fits high) bytes
  top ← number_in 0 1 (pages low.0) (most_above high low.0) low.1
  Ok (low.0 + 256 * top.0, top.1)

-- the bytes of a row of this length
unfoldable pub row_bytes_in : ℕ → List ℕ → Result (List ℕ × List ℕ) ℕ
row_bytes_in len bytes = do
  rest ← behind (row_in len len bytes)
  Ok (take (length bytes - length rest) bytes, rest)

unfoldable pub some_row_in : ℕ → List ℕ → Result (Option (List ℕ) × List ℕ) ℕ
some_row_in room bytes = do
  len ← row_length_in (min 4000 (room - 3)) bytes
  row ← row_bytes_in len.0 len.1
  Ok (Some row.0, row.1)

-- a row or none, in so many bytes at most
unfoldable pub row_part_in : ℕ → List ℕ → Result (Option (List ℕ) × List ℕ) ℕ
row_part_in room bytes = do
  flag ← number_in 0 1 0 (if nat_le 5 room then 1 else 0) bytes
  if flag.0 == 0 then Ok (None, flag.1) else some_row_in room flag.1

-- a change before n more, of 15 bytes at least each
unfoldable pub change_in : ℕ → Slot → List ℕ → Result (Change × List ℕ) ℕ
change_in n slot bytes = do
  place ← place_in slot.least (places - 1 - n) bytes
  row ← row_part_in (slot.room - (14 + 15 * n)) place.1
  Ok (record { place = place.0; row = row.0 }, row.1)

abbrev pub slot_after : ℕ → Slot → Change → Slot
slot_after n slot change = record { least = place_rank change.place + 1; room = slot.room - length (change_bytes change) }

-- a change alone
abbrev pub whole_slot : Slot
whole_slot = record { least = 0; room = 4017 }
