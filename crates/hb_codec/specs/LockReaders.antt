-- Reading locks by ascending path, as long as there are paths for those that are left. A path's rank counts the paths below it.
use Rattle.std.specs.Prelude.{ℕ, ◌+◌, ◌-◌, min, nat_lt, ◌==◌, if◌then◌else◌, List, ◌++◌, Result, Ok}
use Rattle.hb_types.specs.declared.lock.Held.{Held}
use Rattle.hb_types.specs.declared.lock.Mode.{Mode}
use Rattle.hb_types.specs.declared.lock.Mode.TheVariants.{IS, IX, S, SIX, X}
use Rattle.hb_types.specs.declared.places.Path.{Path}
use Rattle.hb_types.specs.declared.places.Path.TheVariants.{Whole, Group, Key}
use Rattle.hb_types.specs.Numbers.{two, eight}
use Rattle.hb_types.specs.Records.{space_bytes, place_bytes}
use Rattle.hb_codec.specs.Readers.{◌>>=◌, number_in}
use Rattle.hb_codec.specs.PlaceReaders.{space_rank, group_rank, place_rank, places, space_in, group_in, place_in}

-- how many paths stand below the first group, and below the first key
abbrev pub groups_from : ℕ
groups_from = 4294967296

abbrev pub keys_from : ℕ
keys_from = 281479271677952

abbrev pub path_rank : Path → ℕ
path_rank (Whole s) = space_rank s
path_rank (Group s g) = groups_from + group_rank s g
path_rank (Key p) = keys_from + place_rank p

-- how many paths there are
abbrev pub paths : ℕ
paths = 5192296858534827628811975600898048

abbrev pub mode_of : ℕ → Mode
mode_of m = if m == 0 then IS else (if m == 1 then IX else (if m == 2 then S else (if m == 3 then SIX else X)))

abbrev pub first_level : ℕ → ℕ
first_level least = if nat_lt least groups_from then 1 else (if nat_lt least keys_from then 2 else 3)

unfoldable pub whole_in : ℕ → List ℕ → Result (Path × List ℕ) ℕ
whole_in least bytes = do
  space ← space_in (min least 4294967295) 4294967295 bytes
  none ← number_in 0 10 0 0 space.1
  Ok (Whole space.0, none.1)

unfoldable pub group_path_in : ℕ → List ℕ → Result (Path × List ℕ) ℕ
group_path_in least bytes = do
  group ← group_in (min (least - groups_from) 281474976710655) 281474976710655 bytes
  none ← number_in 0 8 0 0 group.1
  Ok (Group group.0.0 group.0.1, none.1)

unfoldable pub key_path_in : ℕ → ℕ → List ℕ → Result (Path × List ℕ) ℕ
key_path_in n least bytes = do
  place ← place_in (least - keys_from) (places - 1 - n) bytes
  Ok (Key place.0, place.1)

unfoldable pub path_in : ℕ → ℕ → ℕ → List ℕ → Result (Path × List ℕ) ℕ
path_in level n least bytes = if level == 1 then whole_in least bytes else (if level == 2 then group_path_in least bytes else key_path_in n least bytes)

-- a lock before n more
unfoldable pub lock_in : ℕ → ℕ → List ℕ → Result (Held × List ℕ) ℕ
lock_in n least bytes = do
  level ← number_in 0 1 (first_level least) 3 bytes
  mode ← number_in 0 1 0 4 level.1
  path ← path_in level.0 n least mode.1
  Ok (record { path = path.0; mode = mode_of mode.0 }, path.1)

abbrev pub lock_after : ℕ → ℕ → Held → ℕ
lock_after n least lock = path_rank lock.path + 1

-- a lock's bytes behind its level and mode
abbrev pub path_text : Path → List ℕ
path_text (Whole s) = space_bytes s ++ two 0 ++ eight 0
path_text (Group s g) = space_bytes s ++ two g ++ eight 0
path_text (Key p) = place_bytes p

abbrev pub level_of : Path → ℕ
level_of (Whole s) = 1
level_of (Group s g) = 2
level_of (Key p) = 3
