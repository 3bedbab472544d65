-- What stands in the dictionary at the number of an area or a table.
use Rattle.std.specs.Prelude.{◌≡◌, ℕ, ◌+◌, pos, ◌==◌, Option, find, option_map, option_and_then, slice_get}
use Rattle.hb_types.specs.declared.places.Place.{Place}
use Rattle.hb_types.specs.Put.{lookup}
use Rattle.hb_types.specs.Rows.{row_bytes}
use Rattle.hb_model.specs.Dictionary.{dictionary, area_row, table_row, member_row, entry_row}
use Rattle.hb_model.specs.Spots.{dictionary_space, areas_space, tables_space, members_space, entry_place}
use Rattle.hb_model.specs.State.{State, Area, Spread, table_named}

abbrev pub area_place : ℕ → Place
area_place n = record { space = dictionary_space areas_space; group = 0; key = pos n }

abbrev pub table_place : ℕ → Place
table_place n = record { space = dictionary_space tables_space; group = 0; key = pos n }

-- members are counted from 1
abbrev pub member_place : ℕ → ℕ → Place
member_place n i = record { space = dictionary_space members_space; group = n; key = pos (1 + i) }

abbrev pub area_numbered : State → ℕ → Option Area
area_numbered s n = find (λ a. n == a.number) s.layout.areas

abbrev pub spread_numbered : State → ℕ → Option Spread
spread_numbered s n = find (λ t. n == t.number) s.layout.spreads

-- at an area's number stands the area's row, at a table's number its table's, its members' and its entries', and nothing at other numbers
pub record IsByNumber (s : State) : Type 0 where
  pub areas : (n : ℕ) → lookup (area_place n) (dictionary s) ≡ option_map (λ a. row_bytes (area_row a)) (area_numbered s n)
  pub tables : (n : ℕ) → lookup (table_place n) (dictionary s)
      ≡ option_and_then (λ t. option_map (λ u. row_bytes (table_row u)) (table_named s t.name)) (spread_numbered s n)
  pub members : (n i : ℕ) → lookup (member_place n i) (dictionary s)
      ≡ option_and_then (λ t. option_map (λ m. row_bytes (member_row m)) (slice_get t.members i)) (spread_numbered s n)
  pub entries : (n group : ℕ) → lookup (entry_place n group) (dictionary s)
      ≡ option_and_then (λ t. option_map (λ e. row_bytes (entry_row e)) (slice_get t.entries group)) (spread_numbered s n)
