-- Reading the values of a row, as long as what is left has room for them.
use Rattle.std.specs.Prelude.{ℕ, ◌+◌, ◌-◌, ◌*◌, ◌/◌, min, Bool, nat_le, ◌==◌, ◌&&◌, if◌then◌else◌, List, length, Result, Ok}
use Rattle.std.specs.Int.{w32, cast_signed}
use Rattle.hb_types.specs.declared.value.Value.{Value}
use Rattle.hb_types.specs.declared.value.Value.TheVariants.{Int, Text}
use Rattle.hb_types.specs.Rows.{value_bytes}
use Rattle.hb_codec.specs.declared.rows.Room.{Room}
use Rattle.hb_codec.specs.Readers.{◌>>=◌, number_in, exactly_in, many_in}

-- an integer leaves room for n more values: each has 2 to 257 bytes
abbrev pub integer_fits : ℕ → Room → Bool
integer_fits n room = nat_le (5 + 2 * n) room.high && nat_le room.low (5 + 257 * n)

abbrev pub shortest_text : ℕ → Room → ℕ
shortest_text n room = room.low - (2 + 257 * n)

abbrev pub longest_text : ℕ → Room → ℕ
longest_text n room = min 255 (room.high - (2 + 2 * n))

unfoldable pub integer_in : List ℕ → Result (Value × List ℕ) ℕ
integer_in bytes = do
  n ← number_in 0 4 0 4294967295 bytes
  Ok (Int (cast_signed w32 n.0), n.1)

unfoldable pub text_in : ℕ → Room → List ℕ → Result (Value × List ℕ) ℕ
text_in n room bytes = do
  len ← number_in 0 1 (shortest_text n room) (longest_text n room) bytes
  text ← exactly_in len.0 len.1
  Ok (Text text.0, text.1)

unfoldable pub kind_in : ℕ → Room → List ℕ → Result (ℕ × List ℕ) ℕ
kind_in n room bytes = number_in 0 1 (if integer_fits n room then 1 else 2) 2 bytes

-- a value before n more
unfoldable pub value_in : ℕ → Room → List ℕ → Result (Value × List ℕ) ℕ
value_in n room bytes = do
  kind ← kind_in n room bytes
  if kind.0 == 1 then integer_in kind.1 else text_in n room kind.1

-- the room behind a value
abbrev pub room_after : ℕ → Room → Value → Room
room_after n room value = record { low = room.low - length (value_bytes value); high = room.high - length (value_bytes value) }

abbrev pub fewest : ℕ → ℕ
fewest low = (low + 254) / 257

abbrev pub most : ℕ → ℕ
most high = min 255 ((high - 2) / 2)

-- a row of so many bytes at least, and so many at most
unfoldable pub row_in : ℕ → ℕ → List ℕ → Result (List Value × List ℕ) ℕ
row_in low high bytes = do
  format ← number_in 0 1 1 1 bytes
  count ← number_in 0 1 (fewest low) (most high) format.1
  many_in value_in room_after count.0 (record { low = low - 2; high = high - 2 }) count.1

-- a value's length, without the value
unfoldable pub size_in : ℕ → Room → List ℕ → Result (ℕ × List ℕ) ℕ
size_in n room bytes = do
  value ← value_in n room bytes
  Ok (length (value_bytes value.0), value.1)
