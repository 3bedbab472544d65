-- Each statement's plan asks for its own transaction alone.
use Rattle.std.proofs.Common.{ℕ, ◌+◌, ℤ, List, [], ◌∷◌, ◌++◌, length, map, filter, Option, Some, None, Bool, take}
use Rattle.std.specs.Prelude.{flat_map, unwrap_or, if◌then◌else◌}
use Rattle.std.specs.Option.{option_to_list, option_or}
use Rattle.hb_types.specs.declared.change.Stored.{Stored}
use Rattle.hb_types.specs.declared.lock.Mode.{Mode}
use Rattle.hb_types.specs.declared.lock.Mode.TheVariants as mode
use Rattle.hb_types.specs.declared.places.Path.TheVariants as path
use Rattle.hb_types.specs.declared.value.Column.{Column}
use Rattle.hb_types.specs.declared.value.Value.{Value}
use Rattle.hb_types.specs.Groups.{group_of, route, reassign, target}
use Rattle.hb_types.specs.Places.{node_of_area}
use Rattle.hb_model.specs.declared.condition.Pred.{Pred}
use Rattle.hb_model.specs.declared.reply.Reply.TheVariants as reply
use Rattle.hb_model.specs.declared.statement.Set.{Set}
use Rattle.hb_model.specs.declared.statement.Statement.{Statement}
use Rattle.hb_model.specs.declared.statement.Statement.TheVariants as statement
use Rattle.hb_model.specs.declared.statement.What.{What}
use Rattle.hb_model.specs.declared.statement.What.TheVariants as what
use Rattle.hb_model.specs.Define.{new_area, new_table, new_spread, create_area_refusals, create_table_refusals, add_area_refusals}
use Rattle.hb_model.specs.Dictionary.{area_row, at_place, member_row}
use Rattle.hb_model.specs.Names.{back_end_named}
use Rattle.hb_model.specs.Refusals.{first_refusal, insert_refusals, select_refusals, update_refusals}
use Rattle.hb_model.specs.Rows.{assigned, assigning_refusal, chosen, chooses, first_some, key_of, point, shown}
use Rattle.hb_model.specs.Spots.{ds, dictionary_space, areas_space, tables_space, members_space, entries_space, entry_place, place_in, space_in}
use Rattle.hb_model.specs.State.{Area, area_named, nothing}
use Rattle.hb_model.specs.Told.{Found, entry_of, table_among}
use Rattle.hb_talk.specs.Plans.{lying_rows, with_lying, putting, removing, names, table_of, entry_under, walking, scanning, locking, areas_of_routes, considered, stored_at, select_plan, delete_plan, update_plan, insert_plan, lock_plan}
use Rattle.hb_talk.specs.PlansDefine.{with_areas, with_tables, put_row, new_rows, changed_rows, spread_of, number_of, plan, areas, lock_group, create_area_plan, create_table_plan, spreading, add_area_plan}
use Rattle.hb_talk.specs.Talk.{Planning, ◌>>=◌, ◌>>◌, lock, scan_group}
use Rattle.hb_itemlaws.proofs.Owning.{Owns, owns_bind, owns_then, owns_pure, owns_refuse, owns_some_or, owns_read, owns_scan, owns_scan_group, owns_lock, owns_writes}

-- ---- parts

owns_names : Owns names
owns_names = owns_then _ _ (owns_lock ds (path.Whole (dictionary_space tables_space)) mode.S) (owns_scan ds (dictionary_space tables_space))

owns_table_of : (name : List ℕ) → Owns (table_of name)
owns_table_of name = owns_bind _ _ owns_names (λ rows. owns_some_or reply.NoTable (table_among rows name))

owns_entry : (m : Mode) (table group : ℕ) → Owns (entry_under m table group)
owns_entry m table group =
    owns_then _ _ (owns_lock ds (path.Key (entry_place table group)) m) (owns_bind _ _ (owns_read ds (entry_place table group)) (λ row. owns_pure (entry_of row)))

owns_walking : (m : Mode) (table : ℕ) (key : ℤ) (areas : List ℕ) (rows : List Stored) → Owns (walking m table key areas rows)
owns_walking m table key [] rows = owns_pure rows
owns_walking m table key (a ∷ more) rows =
    owns_then _ _ (owns_lock (node_of_area a) (path.Key (place_in a table key)) m)
    (owns_bind _ _ (owns_read (node_of_area a) (place_in a table key)) (λ row. owns_walking m table key more (rows ++ stored_at (place_in a table key) row)))

owns_scanning : (m : Mode) (table : ℕ) (areas : List ℕ) (rows : List Stored) → Owns (scanning m table areas rows)
owns_scanning m table [] rows = owns_pure rows
owns_scanning m table (a ∷ more) rows =
    owns_then _ _ (owns_lock (node_of_area a) (path.Whole (space_in a table)) m)
    (owns_bind _ _ (owns_scan (node_of_area a) (space_in a table)) (λ found. owns_scanning m table more (rows ++ found)))

owns_locking : (m : Mode) (table : ℕ) (areas : List ℕ) → Owns (locking m table areas)
owns_locking m table [] = owns_pure tt
owns_locking m table (a ∷ more) = owns_then _ _ (owns_lock (node_of_area a) (path.Whole (space_in a table)) m) (owns_locking m table more)

-- the rows of a table in a space of the dictionary, under a lock
owns_group : {A : Type 0} (space table : ℕ) (m : Mode) (f : List Stored → Planning A) → ((rows : List Stored) → Owns (f rows))
    → Owns (lock ds (path.Group (dictionary_space space) table) m >> (scan_group ds (dictionary_space space) table >>= f))
owns_group space table m f k =
    owns_then _ (scan_group ds (dictionary_space space) table >>= f) (owns_lock ds (path.Group (dictionary_space space) table) m)
    (owns_bind _ f (owns_scan_group ds (dictionary_space space) table) k)

owns_considered : (m : Mode) (f : Found) (o : Option ℤ) → Owns (considered m f o)
owns_considered m f (Some key) = owns_bind _ _ (owns_entry mode.S f.0 (group_of key)) (λ entry. owns_walking m f.0 key (flat_map route (option_to_list entry)) [])
owns_considered m f None = owns_group entries_space f.0 mode.S _ (λ entries. owns_scanning m f.0 (areas_of_routes entries) [])

-- ---- statements on a table

owns_select : (name : List ℕ) (w : What) (pred : Option Pred) → Owns (select_plan name w pred)
owns_select name w pred =
    owns_bind _ _ (owns_table_of name) (λ f. owns_then _ _ (owns_refuse (first_refusal (select_refusals f.1 w pred)))
    (owns_bind _ _ (owns_considered mode.S f (point f.1 pred)) (λ rows. let t = with_lying f.1 (lying_rows rows) in
    owns_then _ _ (owns_refuse (first_refusal (select_refusals t w pred))) (owns_pure (reply.Rows (shown t w (chosen t pred)))))))

owns_delete : (name : List ℕ) (pred : Option Pred) → Owns (delete_plan name pred)
owns_delete name pred =
    owns_bind _ _ (owns_table_of name) (λ f. owns_then _ _ (owns_refuse (first_refusal (select_refusals f.1 what.All pred)))
    (owns_bind _ _ (owns_considered mode.X f (point f.1 pred)) (λ rows. let t = with_lying f.1 (lying_rows rows) in
    owns_then _ _ (owns_refuse (first_refusal (select_refusals t what.All pred)))
    (owns_then _ _ (owns_writes (map (λ l. removing l.0) (filter (λ l. chooses t pred l.1) (lying_rows rows)))) (owns_pure (reply.Deleted (length (chosen t pred))))))))

owns_update : (name : List ℕ) (sets : List Set) (pred : Option Pred) → Owns (update_plan name sets pred)
owns_update name sets pred =
    owns_bind _ _ (owns_table_of name) (λ f. owns_then _ _ (owns_refuse (first_refusal (update_refusals f.1 sets pred)))
    (owns_bind _ _ (owns_considered mode.X f (point f.1 pred)) (λ rows. let t = with_lying f.1 (lying_rows rows) in
    owns_then _ _ (owns_refuse (option_or (first_refusal (update_refusals t sets pred)) (first_some (assigning_refusal t sets) (chosen t pred))))
    (owns_then _ _ (owns_writes (map (λ l. putting l.0 (assigned t sets l.1)) (filter (λ l. chooses t pred l.1) (lying_rows rows)))) (owns_pure (reply.Updated (length (chosen t pred))))))))

owns_insert : (name : List ℕ) (values : List Value) → Owns (insert_plan name values)
owns_insert name values =
    owns_bind _ _ (owns_table_of name) (λ f. owns_then _ _ (owns_refuse (first_refusal (insert_refusals f.1 values)))
    (owns_bind _ _ (owns_entry mode.S f.0 (group_of (key_of f.1 values))) (λ entry. owns_bind _ _ (owns_some_or reply.NoArea entry)
    (λ e. owns_bind _ _ (owns_walking mode.X f.0 (key_of f.1 values) (route e) []) (λ rows.
    owns_then _ _ (owns_refuse (first_refusal (insert_refusals (with_lying f.1 (lying_rows rows)) values)))
    (owns_then _ _ (owns_writes (putting (place_in (target e) f.0 (key_of f.1 values)) values ∷ [])) (owns_pure reply.Inserted)))))))

owns_lock_table : (name : List ℕ) (exclusive : Bool) → Owns (lock_plan name exclusive)
owns_lock_table name exclusive =
    let m : Mode = if exclusive then mode.X else mode.S in
    owns_bind _ _ (owns_table_of name) (λ f. owns_group entries_space f.0 mode.S _ (λ entries.
    owns_then _ _ (owns_locking m f.0 (areas_of_routes entries)) (owns_pure reply.Locked)))

-- ---- definitions

owns_areas : (m : Mode) → Owns (areas m)
owns_areas m = owns_then _ _ (owns_lock ds (path.Whole (dictionary_space areas_space)) m) (owns_scan ds (dictionary_space areas_space))

owns_create_area : (back_ends : ℕ) (name node : List ℕ) → Owns (create_area_plan back_ends name node)
owns_create_area back_ends name node =
    owns_bind _ _ (owns_areas mode.X) (λ rows. let s = with_areas nothing rows in let area = new_area s name (unwrap_or (back_end_named back_ends node) 0) in
    owns_then _ _ (owns_refuse (first_refusal (create_area_refusals back_ends s name node)))
    (owns_then _ _ (owns_writes (put_row (at_place areas_space 0 area.number (area_row area)) ∷ [])) (owns_pure reply.Created)))

owns_lock_group : (space table : ℕ) → Owns (lock_group space table)
owns_lock_group space table = owns_lock ds (path.Group (dictionary_space space) table) mode.X

owns_create_table : (name : List ℕ) (columns : List Column) (key : List ℕ) (area_names : List (List ℕ)) → Owns (create_table_plan name columns key area_names)
owns_create_table name columns key area_names =
    owns_then _ _ (owns_lock ds (path.Whole (dictionary_space tables_space)) mode.X) (owns_bind _ _ (owns_scan ds (dictionary_space tables_space)) (λ tables.
    let s = with_tables nothing tables in
    owns_then _ _ (owns_refuse (first_refusal (take 5 (create_table_refusals s name columns key area_names)))) (owns_bind _ _ (owns_areas mode.S) (λ rows.
    let u = with_areas s rows in let spread = new_spread u name area_names in
    owns_then _ _ (owns_refuse (first_refusal (create_table_refusals u name columns key area_names)))
    (owns_then _ _ (owns_lock_group members_space spread.number) (owns_then _ _ (owns_lock_group entries_space spread.number)
    (owns_then _ _ (owns_writes (map put_row (new_rows (new_table name columns key) spread))) (owns_pure reply.Created))))))))

owns_spreading : (f : Found) (area : Option Area) (members : List Stored) → Owns (spreading f area members)
owns_spreading f area members =
    owns_then _ _ (owns_refuse (first_refusal (take 2 (add_area_refusals (spread_of f members []) area)))) (owns_group entries_space f.0 mode.X _ (λ entries.
    let t = spread_of f members entries in
    owns_then _ _ (owns_refuse (first_refusal (add_area_refusals t area)))
    (owns_then _ _ (owns_writes (put_row (at_place members_space f.0 (length t.members + 1) (member_row (number_of area))) ∷ map put_row (changed_rows t (reassign t.entries t.members (number_of area)))))
    (owns_pure reply.Added))))

owns_add_area : (table area_name : List ℕ) → Owns (add_area_plan table area_name)
owns_add_area table area_name =
    owns_bind _ _ (owns_table_of table) (λ f. owns_bind _ _ (owns_areas mode.S) (λ rows. let area = area_named (with_areas nothing rows) area_name in
    owns_then _ _ (owns_some_or reply.NoArea area) (owns_group members_space f.0 mode.X (spreading f area) (λ members. owns_spreading f area members))))

pub owns_plan : (back_ends : ℕ) (st : Statement) → Owns (plan back_ends st)
unfolding plan
owns_plan back_ends (statement.CreateArea name node) = owns_create_area back_ends name node
owns_plan back_ends (statement.CreateTable name columns key area_names) = owns_create_table name columns key area_names
owns_plan back_ends (statement.AddArea table area) = owns_add_area table area
owns_plan back_ends (statement.Insert table values) = owns_insert table values
owns_plan back_ends (statement.Select w table pred) = owns_select table w pred
owns_plan back_ends (statement.Update table sets pred) = owns_update table sets pred
owns_plan back_ends (statement.Delete table pred) = owns_delete table pred
owns_plan back_ends (statement.LockTable table exclusive) = owns_lock_table table exclusive
owns_plan back_ends statement.Commit = owns_pure reply.RolledBack
owns_plan back_ends statement.Rollback = owns_pure reply.RolledBack
