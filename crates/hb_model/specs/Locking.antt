-- The table of locks as a clause of a statement's calls: each Lock is one that the statement and the answers before it ask for.
use Rattle.std.specs.Prelude.{◌≡◌, ◌⊎◌, ℕ, ◌+◌, ◌==◌, ◌&&◌, ℤ, pos, Bool, if◌then◌else◌, List, [], filter, filter_map, flat_map, length, Some, None, Option, MatchOption, ⊤}
use Rattle.std.specs.Ordering.{int_eq}
use Rattle.hb_types.specs.declared.change.Stored.{Stored}
use Rattle.hb_types.specs.declared.entry.Entry.{Entry}
use Rattle.hb_types.specs.declared.lock.Mode.{Mode}
use Rattle.hb_types.specs.declared.lock.Mode.TheVariants as mode
use Rattle.hb_types.specs.declared.places.Path.TheVariants as path
use Rattle.hb_types.specs.declared.request.Request.{Request}
use Rattle.hb_types.specs.declared.request.Request.TheVariants as request
use Rattle.hb_types.specs.declared.trail.Call.{Call}
use Rattle.hb_types.specs.Groups.{group_of, route}
use Rattle.hb_types.specs.Lists.{EachBehind, Has, IsIn, Each}
use Rattle.hb_types.specs.Places.{same_space}
use Rattle.hb_model.specs.declared.statement.Statement.{Statement}
use Rattle.hb_model.specs.declared.statement.Statement.TheVariants as statement
use Rattle.hb_model.specs.declared.table.Table.{Table}
use Rattle.hb_model.specs.Answers.{given}
use Rattle.hb_model.specs.Needs.{Need, at_ds, in_area, on_space, on_group}
use Rattle.hb_model.specs.Rows.{key_of, point}
use Rattle.hb_model.specs.Spots.{areas_space, tables_space, members_space, entries_space, dictionary_space, entry_place, space_in, place_in}
use Rattle.hb_model.specs.Told.{Found, found_in, table_among, entry_of}

-- ---- what the answers before tell

abbrev pub rows_of_space : ℕ → List Stored → List Stored
rows_of_space table rows = filter (λ r. same_space (dictionary_space table) r.place.space) rows

-- the table of this name, by the rows of tables that were answered
abbrev pub table_told : List Call → List ℕ → Option Found
table_told before name = table_among (rows_of_space tables_space (given before)) name

abbrev pub is_entry_of : ℕ → Stored → Bool
is_entry_of table r = same_space (dictionary_space entries_space) r.place.space && (r.place.group == table)

-- the entries of a table that were answered, and that of one group
abbrev pub entries_told : List Call → ℕ → List Entry
entries_told before table = filter_map (λ r. entry_of (Some r.row)) (filter (is_entry_of table) (given before))

abbrev pub entry_told : List Call → ℕ → ℕ → List Entry
entry_told before table group =
    filter_map (λ r. entry_of (Some r.row)) (filter (λ r. is_entry_of table r && int_eq r.place.key (pos group)) (given before))

-- ---- the locks that may be asked for

-- on an entry and on a key in the areas of its route, or on all entries and in the areas of any route
abbrev pub RowLock : Mode → List Call → ℕ → Option ℤ → Need → Type 0
RowLock m before table (Some key) n =
    (n ≡ at_ds (path.Key (entry_place table (group_of key))) mode.S)
    ⊎ Has (λ a. n ≡ in_area a (path.Key (place_in a table key)) m) (flat_map route (entry_told before table (group_of key)))
RowLock m before table None n =
    (n ≡ on_group entries_space table mode.S)
    ⊎ Has (λ a. n ≡ in_area a (path.Whole (space_in a table)) m) (flat_map route (entries_told before table))

-- the names, and once a table was told, its rows
abbrev pub TableLock : Mode → List Call → List ℕ → (Table → Option ℤ) → Need → Type 0
TableLock m before name key n = (n ≡ on_space tables_space mode.S) ⊎ MatchOption (table_told before name) ⊥ (λ f. RowLock m before f.0 (key f.1) n)

-- X on the members and the entries of a table
abbrev pub SpreadLock : ℕ → Need → Type 0
SpreadLock table n = (n ≡ on_group members_space table mode.X) ⊎ (n ≡ on_group entries_space table mode.X)

-- the number of the next table, by the rows of tables that were answered
abbrev pub next_told : List Call → ℕ
next_told before = length (filter_map found_in (rows_of_space tables_space (given before))) + 1

abbrev pub ToldSpreadLock : List Call → List ℕ → Need → Type 0
ToldSpreadLock before name n = MatchOption (table_told before name) ⊥ (λ f. SpreadLock f.0 n)

-- a lock that the table of locks has for this statement, by the answers before
abbrev pub MayLock : Statement → List Call → Need → Type 0
MayLock (statement.CreateArea name node) before n = n ≡ on_space areas_space mode.X
MayLock (statement.CreateTable name columns key areas) before n =
    (n ≡ on_space tables_space mode.X) ⊎ (n ≡ on_space areas_space mode.S) ⊎ SpreadLock (next_told before) n
MayLock (statement.AddArea table area) before n =
    (n ≡ on_space tables_space mode.S) ⊎ (n ≡ on_space areas_space mode.S) ⊎ ToldSpreadLock before table n
MayLock (statement.Insert table values) before n = TableLock mode.X before table (λ t. Some (key_of t values)) n
MayLock (statement.Select w table pred) before n = TableLock mode.S before table (λ t. point t pred) n
MayLock (statement.Update table sets pred) before n = TableLock mode.X before table (λ t. point t pred) n
MayLock (statement.Delete table pred) before n = TableLock mode.X before table (λ t. point t pred) n
MayLock (statement.LockTable table exclusive) before n = TableLock (if exclusive then mode.X else mode.S) before table (λ t. None) n
MayLock statement.Commit before n = ⊥
MayLock statement.Rollback before n = ⊥

-- ---- the clause

-- of a call that is a Lock
abbrev pub OfLock : (Need → Type 0) → ℕ → Request → Type 0
OfLock P node (request.Lock tx p m) = P (record { node = node; path = p; mode = m })
OfLock P node _ = ⊤

-- each Lock of a statement is in the table of locks
abbrev pub LocksByTable : Statement → List Call → Type 0
LocksByTable st calls = EachBehind (λ before c. OfLock (MayLock st before) c.node.0 c.request) [] calls

-- each Lock of these calls is one of these
abbrev pub LocksAmong : List Need → List Call → Type 0
LocksAmong needs calls = Each (λ c. OfLock (λ n. IsIn n needs) c.node.0 c.request) calls
