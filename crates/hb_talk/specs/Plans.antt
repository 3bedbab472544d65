-- The plan of each statement: what a session asks of ds and of the back ends.
use Rattle.std.specs.Prelude.{ℕ, ◌+◌, nat_lt, ℤ, Bool, cond, if◌then◌else◌, List, [], ◌∷◌, ◌++◌, length, map, filter, filter_map, flat_map, fold, sum_by, Option, Some, None, option_map, option_to_list}
use Rattle.std.specs.Option.{option_or}
use Rattle.std.specs.Ordering.{int_cmp, is_lt}
use Rattle.hb_types.specs.declared.change.Change.{Change}
use Rattle.hb_types.specs.declared.change.Stored.{Stored}
use Rattle.hb_types.specs.declared.entry.Entry.{Entry}
use Rattle.hb_types.specs.declared.lock.Mode.{Mode}
use Rattle.hb_types.specs.declared.lock.Mode.TheVariants as mode
use Rattle.hb_types.specs.declared.places.Path.TheVariants as path
use Rattle.hb_types.specs.declared.places.Place.{Place}
use Rattle.hb_types.specs.declared.value.Value.{Value}
use Rattle.hb_types.specs.Groups.{group_of, route, target}
use Rattle.hb_types.specs.Places.{node_of_area}
use Rattle.hb_types.specs.Records.{change_bytes}
use Rattle.hb_types.specs.Rows.{row_bytes, values_in}
use Rattle.hb_model.specs.declared.table.Table.{Table}
use Rattle.hb_model.specs.declared.reply.Reply.{Reply}
use Rattle.hb_model.specs.declared.reply.Reply.TheVariants as reply
use Rattle.hb_model.specs.declared.condition.Pred.{Pred}
use Rattle.hb_model.specs.declared.statement.Set.{Set}
use Rattle.hb_model.specs.declared.statement.What.{What}
use Rattle.hb_model.specs.declared.statement.What.TheVariants as what
use Rattle.hb_model.specs.Spots.{ds, tables_space, entries_space, dictionary_space, entry_place, space_in, place_in, ascending}
use Rattle.hb_model.specs.Told.{Found, table_among, entry_of}
use Rattle.hb_model.specs.Refusals.{first_refusal, insert_refusals, select_refusals, update_refusals}
use Rattle.hb_model.specs.Does.{most_bytes}
use Rattle.hb_model.specs.Rows.{key_of, point, chosen, chooses, shown, assigned, assigning_refusal, first_some}
use Rattle.hb_talk.specs.Talk.{Planning, ◌>>=◌, ◌>>◌, pure, refused, refuse, lock, read, scan, scan_group, write}

abbrev pub some_or : {A : Type 0} → Reply → Option A → Planning A
some_or r None = refused r
some_or r (Some x) = pure x

-- ---- parts of plans

-- S on the tables' space, and its rows
abbrev pub names : Planning (List Stored)
names = lock ds (path.Whole (dictionary_space tables_space)) mode.S >> scan ds (dictionary_space tables_space)

-- the table of this name, or NO TABLE
abbrev pub table_of : List ℕ → Planning Found
table_of name = names >>= (λ rows. some_or reply.NoTable (table_among rows name))

-- a group's entry, read under a lock
abbrev pub entry_under : Mode → ℕ → ℕ → Planning (Option Entry)
entry_under m table group = lock ds (path.Key (entry_place table group)) m >> (read ds (entry_place table group) >>= (λ row. pure (entry_of row)))

abbrev pub stored_at : Place → Option (List ℕ) → List Stored
stored_at place row = option_to_list (option_map (λ r. record { place = place; row = r }) row)

-- the rows of a key in the areas left, each read under a lock, behind those found
abbrev pub walking : Mode → ℕ → ℤ → List ℕ → List Stored → Planning (List Stored)
walking m table key [] rows = pure rows
walking m table key (area ∷ more) rows =
    lock (node_of_area area) (path.Key (place_in area table key)) m
    >> (read (node_of_area area) (place_in area table key) >>= (λ row. walking m table key more (rows ++ stored_at (place_in area table key) row)))

-- the rows of a table in the areas left, each scanned under a lock, behind those found
abbrev pub scanning : Mode → ℕ → List ℕ → List Stored → Planning (List Stored)
scanning m table [] rows = pure rows
scanning m table (area ∷ more) rows =
    lock (node_of_area area) (path.Whole (space_in area table)) m
    >> (scan (node_of_area area) (space_in area table) >>= (λ found. scanning m table more (rows ++ found)))

-- locks on a table in the areas left
abbrev pub locking : Mode → ℕ → List ℕ → Planning (Unit {0})
locking m table [] = pure tt
locking m table (area ∷ more) = lock (node_of_area area) (path.Whole (space_in area table)) m >> locking m table more

-- the areas of the routes of entries, ascending
abbrev pub areas_of_routes : List Stored → List ℕ
areas_of_routes entries = ascending (flat_map (λ r. flat_map route (option_to_list (entry_of (Some r.row)))) entries)

-- ---- the rows that a statement considers, as they lie

-- those of one key: in each area of its route; the last area is where a new row goes
abbrev pub point_rows : Mode → ℕ → ℤ → Planning (List Stored)
point_rows m table key = entry_under mode.S table (group_of key) >>= (λ entry. walking m table key (flat_map route (option_to_list entry)) [])

-- all of them, in the areas of any route
abbrev pub all_rows : Mode → ℕ → Planning (List Stored)
all_rows m table =
    lock ds (path.Group (dictionary_space entries_space) table) mode.S
    >> (scan_group ds (dictionary_space entries_space) table >>= (λ entries. scanning m table (areas_of_routes entries) []))

abbrev pub considered : Mode → Found → Option ℤ → Planning (List Stored)
considered m f (Some key) = point_rows m f.0 key
considered m f None = all_rows m f.0

-- a row with its place
abbrev pub Lying : Type 0
Lying = Place × List Value

abbrev pub lying : Stored → Option Lying
lying r = option_map (λ values. (r.place, values)) (values_in r.row)

abbrev pub by_key : Lying → List Lying → List Lying
by_key l [] = l ∷ []
by_key l (m ∷ ms) = cond (is_lt (int_cmp l.0.key m.0.key)) (l ∷ m ∷ ms) (m ∷ by_key l ms)

abbrev pub lying_rows : List Stored → List Lying
lying_rows rows = fold (λ ls l. by_key l ls) [] (filter_map lying rows)

-- the table with the rows that were read
abbrev pub with_lying : Table → List Lying → Table
with_lying t ls = record t { rows = map (λ l. l.1) ls }

-- ---- writes

abbrev pub sizes : List Change → ℕ
sizes changes = sum_by (λ c. length (change_bytes c)) changes

-- the Writes that are left
abbrev pub writing : List Change → Planning (Unit {0})
writing [] = pure tt
writing (c ∷ more) = write (node_of_area c.place.space.area) c >> writing more

-- the Writes of a statement, if its changes are not too much
abbrev pub writes : List Change → Planning (Unit {0})
writes changes = λ u.
    if nat_lt most_bytes (u.bytes + sizes changes) then refused reply.TooMuch u else writing changes (record u { bytes = u.bytes + sizes changes })

abbrev pub putting : Place → List Value → Change
putting place values = record { place = place; row = Some (row_bytes values) }

abbrev pub removing : Place → Change
removing place = record { place = place; row = None }

-- ---- statements on a table

abbrev pub select_plan : List ℕ → What → Option Pred → Planning Reply
select_plan name w pred =
    table_of name >>= (λ f. refuse (first_refusal (select_refusals f.1 w pred))
    >> (considered mode.S f (point f.1 pred) >>= (λ rows.
    let t = with_lying f.1 (lying_rows rows) in
    refuse (first_refusal (select_refusals t w pred)) >> pure (reply.Rows (shown t w (chosen t pred))))))

abbrev pub delete_plan : List ℕ → Option Pred → Planning Reply
delete_plan name pred =
    table_of name >>= (λ f. refuse (first_refusal (select_refusals f.1 what.All pred))
    >> (considered mode.X f (point f.1 pred) >>= (λ rows.
    let t = with_lying f.1 (lying_rows rows) in
    refuse (first_refusal (select_refusals t what.All pred))
    >> (writes (map (λ l. removing l.0) (filter (λ l. chooses t pred l.1) (lying_rows rows))) >> pure (reply.Deleted (length (chosen t pred)))))))

abbrev pub update_plan : List ℕ → List Set → Option Pred → Planning Reply
update_plan name sets pred =
    table_of name >>= (λ f. refuse (first_refusal (update_refusals f.1 sets pred))
    >> (considered mode.X f (point f.1 pred) >>= (λ rows.
    let t = with_lying f.1 (lying_rows rows) in
    refuse (option_or (first_refusal (update_refusals t sets pred)) (first_some (assigning_refusal t sets) (chosen t pred)))
    >> (writes (map (λ l. putting l.0 (assigned t sets l.1)) (filter (λ l. chooses t pred l.1) (lying_rows rows))) >> pure (reply.Updated (length (chosen t pred)))))))

abbrev pub insert_plan : List ℕ → List Value → Planning Reply
insert_plan name values =
    table_of name >>= (λ f. refuse (first_refusal (insert_refusals f.1 values))
    >> (entry_under mode.S f.0 (group_of (key_of f.1 values)) >>= (λ entry. some_or reply.NoArea entry
    >>= (λ e. walking mode.X f.0 (key_of f.1 values) (route e) [] >>= (λ rows.
    refuse (first_refusal (insert_refusals (with_lying f.1 (lying_rows rows)) values))
    >> (writes (putting (place_in (target e) f.0 (key_of f.1 values)) values ∷ []) >> pure reply.Inserted))))))

abbrev pub lock_plan : List ℕ → Bool → Planning Reply
lock_plan name exclusive =
    let m : Mode = if exclusive then mode.X else mode.S in
    table_of name >>= (λ f. lock ds (path.Group (dictionary_space entries_space) f.0) mode.S
    >> (scan_group ds (dictionary_space entries_space) f.0 >>= (λ entries.
    locking m f.0 (areas_of_routes entries) >> pure reply.Locked)))
