-- Reading places between two others. A place's rank counts the places below it.
use Rattle.std.specs.Prelude.{ℕ, ◌+◌, ◌-◌, ◌*◌, ◌/◌, ◌%◌, min, ℤ, List, Result, Ok}
use Rattle.std.specs.Int.{w64, cast_signed, cast_unsigned}
use Rattle.hb_types.specs.declared.places.Space.{Space}
use Rattle.hb_types.specs.declared.places.Place.{Place}
use Rattle.hb_codec.specs.Readers.{◌>>=◌, number_in}

-- a key's rank among the keys, and back
abbrev pub key_rank : ℤ → ℕ
key_rank key = (cast_unsigned w64 key + 9223372036854775808) % 18446744073709551616

abbrev pub key_of : ℕ → ℤ
key_of rank = cast_signed w64 ((rank + 9223372036854775808) % 18446744073709551616)

abbrev pub space_rank : Space → ℕ
space_rank s = s.area * 65536 + s.table

abbrev pub group_rank : Space → ℕ → ℕ
group_rank s group = space_rank s * 65536 + group

abbrev pub place_rank : Place → ℕ
place_rank p = group_rank p.space p.group * 18446744073709551616 + key_rank p.key

-- how many places there are
abbrev pub places : ℕ
places = 5192296858534827628530496329220096

-- a bound on ranks, as it bounds what stands inside one cell of so many ranks
abbrev pub inside : ℕ → ℕ → ℕ → ℕ
inside unit cell bound = min (bound - cell * unit) (unit - 1)

unfoldable pub space_in : ℕ → ℕ → List ℕ → Result (Space × List ℕ) ℕ
space_in low high bytes = do
  area ← number_in 0 2 (low / 65536) (high / 65536) bytes
  table ← number_in 0 2 (inside 65536 area.0 low) (inside 65536 area.0 high) area.1
  Ok (record { area = area.0; table = table.0 }, table.1)

unfoldable pub group_in : ℕ → ℕ → List ℕ → Result ((Space × ℕ) × List ℕ) ℕ
group_in low high bytes = do
  space ← space_in (low / 65536) (high / 65536) bytes
  group ← number_in 0 2 (inside 65536 (space_rank space.0) low) (inside 65536 (space_rank space.0) high) space.1
  Ok ((space.0, group.0), group.1)

unfoldable pub place_in : ℕ → ℕ → List ℕ → Result (Place × List ℕ) ℕ
place_in low high bytes = do
  g ← group_in (low / 18446744073709551616) (high / 18446744073709551616) bytes
  key ← number_in 128 8 (inside 18446744073709551616 (group_rank g.0.0 g.0.1) low) (inside 18446744073709551616 (group_rank g.0.0 g.0.1) high) g.1
  Ok (record { space = g.0.0; group = g.0.1; key = key_of key.0 }, key.1)
