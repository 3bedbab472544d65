-- The rows of the dictionary, as values.
use Rattle.std.specs.Prelude.{ℕ, zero, suc, ◌/◌, ◌==◌, if◌then◌else◌, ℤ, pos, nat_abs, Option, Some, None, List, [], ◌∷◌, ◌++◌, flat_map, map, option_map, unwrap_or}
use Rattle.std.specs.Ordering.{int_eq}
use Rattle.hb_types.specs.declared.value.Value.{Value}
use Rattle.hb_types.specs.declared.value.Value.TheVariants.{Int, Text}
use Rattle.hb_types.specs.declared.value.Column.{Column}
use Rattle.hb_types.specs.declared.entry.Entry.{Entry}
use Rattle.hb_types.specs.declared.entry.Entry.TheVariants.{At, Moving}
use Rattle.hb_model.specs.declared.table.Table.{Table}
use Rattle.hb_types.specs.declared.change.Stored.{Stored}
use Rattle.hb_types.specs.Groups.{map_from}
use Rattle.hb_types.specs.Rows.{row_bytes}
use Rattle.hb_model.specs.Spots.{dictionary_space, areas_space, tables_space, members_space, entries_space}
use Rattle.hb_model.specs.State.{State, Area, Spread, table_named}

-- an area's name and its back end's number
abbrev pub area_row : Area → List Value
area_row a = Text a.name ∷ Int (pos (a.number / 256)) ∷ []

-- a table's name, its hash, its key column's position, and each column's name and size
abbrev pub table_row : Table → List Value
table_row t = Text t.name ∷ Int (pos 1) ∷ Int (pos t.key) ∷ flat_map (λ c. Text c.name ∷ Int (pos c.size) ∷ []) t.columns

-- the area of a member
abbrev pub member_row : ℕ → List Value
member_row area = Int (pos area) ∷ []

-- the old area and the new one, or the area and 0
abbrev pub entry_row : Entry → List Value
entry_row (At a) = Int (pos a) ∷ Int (pos 0) ∷ []
entry_row (Moving a b) = Int (pos a) ∷ Int (pos b) ∷ []

-- ---- the rows of ds

abbrev pub at_place : ℕ → ℕ → ℕ → List Value → Stored
at_place table group key row = record { place = record { space = dictionary_space table; group = group; key = pos key }; row = row_bytes row }

abbrev pub member_rows : Spread → List Stored
member_rows t = map_from (λ i area. at_place members_space t.number i (member_row area)) 1 t.members

abbrev pub entry_rows : Spread → List Stored
entry_rows t = map_from (λ group e. at_place entries_space t.number group (entry_row e)) 0 t.entries

-- the row of the table of a spread
abbrev pub table_rows : State → Spread → List Stored
table_rows s t = unwrap_or (option_map (λ u. at_place tables_space 0 t.number (table_row u) ∷ []) (table_named s t.name)) []

abbrev pub area_rows : State → List Stored
area_rows s = map (λ a. at_place areas_space 0 a.number (area_row a)) s.layout.areas

-- the rows of ds in a state, by ascending place
abbrev pub dictionary : State → List Stored
dictionary s = area_rows s ++ flat_map (table_rows s) s.layout.spreads ++ flat_map member_rows s.layout.spreads ++ flat_map entry_rows s.layout.spreads

-- those of them in one space
abbrev pub rows_in_space : State → ℕ → List Stored
rows_in_space s space =
    if space == areas_space then area_rows s
    else (if space == tables_space then flat_map (table_rows s) s.layout.spreads
    else (if space == members_space then flat_map member_rows s.layout.spreads
    else (if space == entries_space then flat_map entry_rows s.layout.spreads else [])))

-- ---- reading rows

abbrev pub size_of : ℤ → ℕ
size_of n = nat_abs n

-- an area, by its number
abbrev pub area_in : ℕ → List Value → Option Area
area_in number (Text name ∷ Int bes ∷ []) = if int_eq bes (pos (number / 256)) then Some (record { number = number; name = name }) else None
area_in number _ = None

abbrev pub columns_in : List Value → Option (List Column)
columns_in [] = Some []
columns_in (Text name ∷ Int size ∷ rest) = option_map (λ cs. record { name = name; size = size_of size } ∷ cs) (columns_in rest)
columns_in _ = None

-- a table without rows
abbrev pub table_in : List Value → Option Table
table_in (Text name ∷ Int hash ∷ Int key ∷ rest) = option_map (λ cs. record { name = name; columns = cs; key = size_of key; rows = [] }) (columns_in rest)
table_in _ = None

abbrev pub member_in : List Value → Option ℕ
member_in (Int area ∷ []) = Some (size_of area)
member_in _ = None

-- the entry of two areas; none of area 0, which is of ds
abbrev pub entry_of_areas : ℕ → ℕ → Option Entry
entry_of_areas zero b = None
entry_of_areas (suc a) zero = Some (At (suc a))
entry_of_areas (suc a) (suc b) = Some (Moving (suc a) (suc b))

abbrev pub entry_in : List Value → Option Entry
entry_in (Int a ∷ Int b ∷ []) = entry_of_areas (size_of a) (size_of b)
entry_in _ = None
