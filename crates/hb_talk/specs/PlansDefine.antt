-- The plans of CREATE RDAREA, CREATE TABLE and ADD RDAREA, and the plan of each statement.
use Rattle.std.specs.Prelude.{ℕ, ◌+◌, nat_abs, false, List, [], ◌∷◌, ◌++◌, length, map, filter, filter_map, take, Option, Some, option_map, option_and_then, unwrap_or}
use Rattle.hb_types.specs.declared.change.Change.{Change}
use Rattle.hb_types.specs.declared.change.Stored.{Stored}
use Rattle.hb_types.specs.declared.entry.Entry.{Entry}
use Rattle.hb_types.specs.declared.lock.Mode.{Mode}
use Rattle.hb_types.specs.declared.lock.Mode.TheVariants as mode
use Rattle.hb_types.specs.declared.places.Path.TheVariants as path
use Rattle.hb_types.specs.declared.value.Column.{Column}
use Rattle.hb_types.specs.Groups.{is_moving, reassign}
use Rattle.hb_types.specs.Rows.{values_in}
use Rattle.hb_model.specs.declared.table.Table.{Table}
use Rattle.hb_model.specs.declared.reply.Reply.{Reply}
use Rattle.hb_model.specs.declared.reply.Reply.TheVariants as reply
use Rattle.hb_model.specs.declared.statement.Statement.{Statement}
use Rattle.hb_model.specs.declared.statement.Statement.TheVariants as statement
use Rattle.hb_model.specs.Define.{new_area, new_table, new_spread, create_area_refusals, create_table_refusals, add_area_refusals}
use Rattle.hb_model.specs.Dictionary.{area_in, member_in, area_row, table_row, member_row, at_place, member_rows, entry_rows}
use Rattle.hb_model.specs.Refusals.{first_refusal}
use Rattle.hb_model.specs.Names.{back_end_named}
use Rattle.hb_model.specs.Spots.{ds, dictionary_space, areas_space, tables_space, members_space, entries_space}
use Rattle.hb_model.specs.Told.{Found, found_in, entry_of}
use Rattle.hb_talk.specs.Plans.{table_of, writes, some_or, select_plan, delete_plan, update_plan, insert_plan, lock_plan}
use Rattle.hb_model.specs.State.{State, Area, Spread, nothing, area_named}
use Rattle.hb_talk.specs.Talk.{Planning, ◌>>=◌, ◌>>◌, pure, refuse, lock, scan, scan_group}

-- ---- what the rows of ds tell

abbrev pub area_of : Stored → Option Area
area_of r = option_and_then (area_in (nat_abs r.place.key)) (values_in r.row)

-- a state with these areas, and with these tables
abbrev pub with_areas : State → List Stored → State
with_areas s rows = record s { layout = record s.layout { areas = filter_map area_of rows } }

abbrev pub named_only : Found → Spread
named_only f = record { number = f.0; name = f.1.name; members = []; entries = [] }

abbrev pub with_tables : State → List Stored → State
with_tables s rows =
    record s { tables = map (λ f. f.1) (filter_map found_in rows); layout = record s.layout { spreads = map named_only (filter_map found_in rows) } }

abbrev pub member_of : Stored → Option ℕ
member_of r = option_and_then member_in (values_in r.row)

abbrev pub entries_of : List Stored → List Entry
entries_of rows = filter_map (λ r. entry_of (Some r.row)) rows

-- the change that puts a row of the dictionary
abbrev pub put_row : Stored → Change
put_row r = record { place = r.place; row = Some r.row }

-- ---- plans

-- the rows of the areas, under a lock
abbrev pub areas : Mode → Planning (List Stored)
areas m = lock ds (path.Whole (dictionary_space areas_space)) m >> scan ds (dictionary_space areas_space)

abbrev pub create_area_plan : ℕ → List ℕ → List ℕ → Planning Reply
create_area_plan back_ends name node =
    areas mode.X >>= (λ rows.
    let s = with_areas nothing rows in
    let area = new_area s name (unwrap_or (back_end_named back_ends node) 0) in
    refuse (first_refusal (create_area_refusals back_ends s name node))
    >> (writes (put_row (at_place areas_space 0 area.number (area_row area)) ∷ []) >> pure reply.Created))

abbrev pub lock_group : ℕ → ℕ → Planning (Unit {0})
lock_group space table = lock ds (path.Group (dictionary_space space) table) mode.X

abbrev pub new_rows : Table → Spread → List Stored
new_rows t spread = at_place tables_space 0 spread.number (table_row t) ∷ member_rows spread ++ entry_rows spread

abbrev pub create_table_plan : List ℕ → List Column → List ℕ → List (List ℕ) → Planning Reply
create_table_plan name columns key area_names =
    lock ds (path.Whole (dictionary_space tables_space)) mode.X >> (scan ds (dictionary_space tables_space) >>= (λ tables.
    let s = with_tables nothing tables in
    refuse (first_refusal (take 5 (create_table_refusals s name columns key area_names)))
    >> (areas mode.S >>= (λ rows.
    let u = with_areas s rows in
    let spread = new_spread u name area_names in
    refuse (first_refusal (create_table_refusals u name columns key area_names))
    >> (lock_group members_space spread.number >> (lock_group entries_space spread.number
    >> (writes (map put_row (new_rows (new_table name columns key) spread)) >> pure reply.Created)))))))

-- the entries of a table after an area was added, as they change
abbrev pub changed_rows : Spread → List Entry → List Stored
changed_rows t after = filter (λ r. unwrap_or (option_map is_moving (entry_of (Some r.row))) false) (entry_rows (record t { entries = after }))

-- the table's spread, as the rows of its members and entries tell it
abbrev pub spread_of : Found → List Stored → List Stored → Spread
spread_of f members entries = record { number = f.0; name = f.1.name; members = filter_map member_of members; entries = entries_of entries }

abbrev pub number_of : Option Area → ℕ
number_of area = unwrap_or (option_map (λ a. a.number) area) 0

-- the change of the entries, once the members are known
abbrev pub spreading : Found → Option Area → List Stored → Planning Reply
spreading f area members =
    refuse (first_refusal (take 2 (add_area_refusals (spread_of f members []) area))) >> (lock_group entries_space f.0
    >> (scan_group ds (dictionary_space entries_space) f.0 >>= (λ entries.
    let t = spread_of f members entries in
    refuse (first_refusal (add_area_refusals t area))
    >> (writes (put_row (at_place members_space f.0 (length t.members + 1) (member_row (number_of area)))
    ∷ map put_row (changed_rows t (reassign t.entries t.members (number_of area)))) >> pure reply.Added))))

abbrev pub add_area_plan : List ℕ → List ℕ → Planning Reply
add_area_plan table area_name =
    table_of table >>= (λ f. areas mode.S >>= (λ rows.
    let area = area_named (with_areas nothing rows) area_name in
    some_or reply.NoArea area >> (lock_group members_space f.0 >> (scan_group ds (dictionary_space members_space) f.0 >>= spreading f area))))

-- what a session asks for a statement, and its reply; COMMIT and ROLLBACK stand apart
unfoldable pub plan : ℕ → Statement → Planning Reply
plan back_ends (statement.CreateArea name node) = create_area_plan back_ends name node
plan back_ends (statement.CreateTable name columns key area_names) = create_table_plan name columns key area_names
plan back_ends (statement.AddArea table area) = add_area_plan table area
plan back_ends (statement.Insert table values) = insert_plan table values
plan back_ends (statement.Select w table pred) = select_plan table w pred
plan back_ends (statement.Update table sets pred) = update_plan table sets pred
plan back_ends (statement.Delete table pred) = delete_plan table pred
plan back_ends (statement.LockTable table exclusive) = lock_plan table exclusive
plan back_ends statement.Commit = pure reply.RolledBack
plan back_ends statement.Rollback = pure reply.RolledBack
