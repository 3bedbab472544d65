-- What CREATE and ALTER make of a state, and when they are refused.
use Rattle.std.specs.Prelude.{ℕ, ◌+◌, ◌*◌, ◌/◌, ◌==◌, nat_lt, nat_le, Bool, false, not, ◌&&◌, ◌||◌, if◌then◌else◌, List, [], ◌∷◌, ◌++◌, length, map, filter, filter_map, count_by, Option, is_none, is_some, option_map, unwrap_or, position}
use Rattle.std.specs.Str.{bytes_eq}
use Rattle.std.specs.List.{list_any}
use Rattle.hb_types.specs.declared.entry.Entry.{Entry}
use Rattle.hb_types.specs.declared.value.Column.{Column}
use Rattle.hb_types.specs.Groups.{first_entries, reassign, is_moving}
use Rattle.hb_types.specs.Lists.{has_twins}
use Rattle.hb_model.specs.declared.table.Table.{Table}
use Rattle.hb_model.specs.declared.reply.Reply.{Reply}
use Rattle.hb_model.specs.declared.reply.Reply.TheVariants as reply
use Rattle.hb_model.specs.Names.{back_end_named}
use Rattle.hb_model.specs.State.{State, Area, Spread, area_named, table_named, with_table, with_area}

-- ---- areas

-- how many areas a back end has
abbrev pub areas_of : State → ℕ → ℕ
areas_of s back_end = count_by (λ a. a.number / 256 == back_end) s.layout.areas

-- the next area of a back end
abbrev pub new_area : State → List ℕ → ℕ → Area
new_area s name back_end = record { number = 256 * back_end + (areas_of s back_end + 1); name = name }

abbrev pub create_area : State → Area → State
create_area s a = record s { layout = record s.layout { areas = with_area a s.layout.areas } }

-- ---- tables

-- the numbers of the areas of these names, in order
abbrev pub numbers_of : State → List (List ℕ) → List ℕ
numbers_of s names = filter_map (λ name. option_map (λ a. a.number) (area_named s name)) names

-- the position of a column
abbrev pub key_position : List Column → List ℕ → ℕ
key_position columns key = unwrap_or (position (λ c. bytes_eq c.name key) columns) 0

abbrev pub new_table : List ℕ → List Column → List ℕ → Table
new_table name columns key = record { name = name; columns = columns; key = key_position columns key; rows = [] }

-- a new table's number, areas and entries
abbrev pub new_spread : State → List ℕ → List (List ℕ) → Spread
new_spread s name areas =
    let members = numbers_of s areas in
    record { number = length s.layout.spreads + 1; name = name; members = members; entries = first_entries members }

abbrev pub create_table : State → Table → Spread → State
create_table s t spread =
    record { tables = with_table t s.tables; layout = record s.layout { spreads = s.layout.spreads ++ spread ∷ [] } }

abbrev pub is_key_number : List Column → List ℕ → Bool
is_key_number columns key = list_any (λ c. bytes_eq c.name key && (c.size == 0)) columns

-- the refusals of CREATE TABLE, in order
abbrev pub create_table_refusals : State → List ℕ → List Column → List ℕ → List (List ℕ) → List (Bool × Reply)
create_table_refusals s name columns key areas =
    (is_some (table_named s name), reply.TableThere)
    ∷ (nat_le 64 (length s.tables) || (nat_lt 16 (length columns) || nat_lt 16 (length areas)), reply.TooMany)
    ∷ (has_twins (λ a b. bytes_eq a.name b.name) columns, reply.ColumnTwice)
    ∷ (not (list_any (λ c. bytes_eq c.name key) columns), reply.NoColumn)
    ∷ (not (is_key_number columns key) || list_any (λ c. nat_lt 255 c.size) columns, reply.WrongType)
    ∷ (list_any (λ a. is_none (area_named s a)) areas, reply.NoArea)
    ∷ (has_twins bytes_eq areas, reply.AreaThere)
    ∷ []

-- the refusals of CREATE RDAREA, in order
abbrev pub create_area_refusals : ℕ → State → List ℕ → List ℕ → List (Bool × Reply)
create_area_refusals back_ends s name node =
    (is_none (back_end_named back_ends node), reply.NoNode)
    ∷ (is_some (area_named s name), reply.AreaThere)
    ∷ (nat_le 64 (length s.layout.areas), reply.TooMany)
    ∷ []

-- ---- an area added to a table

abbrev pub spread_with : Spread → ℕ → Spread
spread_with t area = record t { members = t.members ++ area ∷ []; entries = reassign t.entries t.members area }

abbrev pub add_area : State → List ℕ → ℕ → State
add_area s table area =
    record s { layout = record s.layout { spreads = map (λ t. if bytes_eq t.name table then spread_with t area else t) s.layout.spreads } }

abbrev pub is_rebalancing : Spread → Bool
is_rebalancing t = list_any is_moving t.entries

-- the refusals of ADD RDAREA to a table that is there, in order
abbrev pub add_area_refusals : Spread → Option Area → List (Bool × Reply)
add_area_refusals t area =
    (is_none area, reply.NoArea)
    ∷ (list_any (λ n. unwrap_or (option_map (λ a. a.number == n) area) false) t.members, reply.AreaThere)
    ∷ (is_rebalancing t, reply.Rebalancing)
    ∷ (nat_le 16 (length t.members), reply.TooMany)
    ∷ []

-- the entries that ADD RDAREA changes
abbrev pub changed_entries : Spread → ℕ → List Entry
changed_entries t area = filter is_moving (reassign t.entries t.members area)
