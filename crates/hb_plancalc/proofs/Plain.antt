-- Each statement's plan keeps the counts and decides nothing.
use Rattle.std.proofs.Common.{◌≡◌, ℕ, ◌+◌, ℤ, List, [], ◌∷◌, ◌++◌, length, map, filter, Option, Some, None, Result, Ok, Err, Bool, false, not, refl, arith, take}
use Rattle.std.specs.Prelude.{IsTrue, flat_map, unwrap_or}
use Rattle.std.specs.Option.{option_to_list, option_or}
use Rattle.hb_types.specs.declared.change.Stored.{Stored}
use Rattle.hb_types.specs.declared.lock.Mode.{Mode}
use Rattle.hb_types.specs.declared.lock.Mode.TheVariants as mode
use Rattle.hb_types.specs.declared.places.Path.TheVariants as path
use Rattle.hb_types.specs.declared.trail.Call.{Call}
use Rattle.hb_types.specs.declared.value.Column.{Column}
use Rattle.hb_types.specs.declared.value.Value.{Value}
use Rattle.hb_types.specs.Groups.{group_of, route, reassign, target}
use Rattle.hb_types.specs.Places.{node_of_area}
use Rattle.hb_model.specs.declared.condition.Pred.{Pred}
use Rattle.hb_model.specs.declared.reply.Reply.{Reply}
use Rattle.hb_model.specs.declared.reply.Reply.TheVariants as reply
use Rattle.hb_model.specs.declared.statement.Set.{Set}
use Rattle.hb_model.specs.declared.statement.Statement.{Statement}
use Rattle.hb_model.specs.declared.statement.Statement.TheVariants as statement
use Rattle.hb_model.specs.declared.statement.What.{What}
use Rattle.std.specs.Prelude.{if◌then◌else◌}
use Rattle.hb_model.specs.declared.statement.What.TheVariants as what
use Rattle.hb_model.specs.Answers.{bytes_in, grants_in}
use Rattle.hb_model.specs.Define.{new_area, new_table, new_spread, create_area_refusals, create_table_refusals, add_area_refusals}
use Rattle.hb_model.specs.Dictionary.{area_row, at_place, member_row}
use Rattle.hb_model.specs.Items.{spending}
use Rattle.hb_model.specs.Names.{back_end_named}
use Rattle.hb_model.specs.Outside.{is_outside}
use Rattle.hb_model.specs.Refusals.{first_refusal, insert_refusals, select_refusals, update_refusals}
use Rattle.hb_model.specs.Rows.{assigned, assigning_refusal, chosen, chooses, first_some, key_of, point, shown}
use Rattle.hb_model.specs.Spots.{ds, dictionary_space, areas_space, tables_space, members_space, entries_space, entry_place, place_in, space_in}
use Rattle.hb_model.specs.State.{Area, area_named, nothing}
use Rattle.hb_model.specs.Told.{Found, entry_of, table_among}
use Rattle.hb_talk.specs.Plans.{lying_rows, with_lying, putting, removing, names, table_of, entry_under, walking, scanning, locking, areas_of_routes, considered, stored_at, select_plan, delete_plan, update_plan, insert_plan, lock_plan}
use Rattle.hb_talk.specs.PlansDefine.{with_areas, with_tables, put_row, new_rows, changed_rows, spread_of, number_of, plan, areas, lock_group, create_area_plan, create_table_plan, spreading, add_area_plan}
use Rattle.hb_talk.specs.Talk.{Use, Planning, ◌>>=◌, ◌>>◌, lock, scan_group}
use Rattle.hb_plancalc.specs.Counted.{PlanCounts, IsWithin, reply_in, spent_of}
use Rattle.hb_plancalc.proofs.Counts.{Holds, Keeps, Out, Then, always_followed, keeps_bind, keeps_then, keeps_pure, keeps_refuse, keeps_some_or, keeps_read, keeps_scan, keeps_scan_group, keeps_lock, keeps_writes}

-- ---- parts

keeps_names : Keeps names
keeps_names = keeps_then _ _ (keeps_lock ds (path.Whole (dictionary_space tables_space)) mode.S) (keeps_scan ds (dictionary_space tables_space))

keeps_table_of : (name : List ℕ) → Keeps (table_of name)
keeps_table_of name = keeps_bind _ _ keeps_names (λ rows. keeps_some_or reply.NoTable (table_among rows name))

keeps_entry : (m : Mode) (table group : ℕ) → Keeps (entry_under m table group)
keeps_entry m table group =
    keeps_then _ _ (keeps_lock ds (path.Key (entry_place table group)) m) (keeps_bind _ _ (keeps_read ds (entry_place table group)) (λ row. keeps_pure (entry_of row)))

keeps_walking : (m : Mode) (table : ℕ) (key : ℤ) (areas : List ℕ) (rows : List Stored) → Keeps (walking m table key areas rows)
keeps_walking m table key [] rows = keeps_pure rows
keeps_walking m table key (a ∷ more) rows =
    keeps_then _ _ (keeps_lock (node_of_area a) (path.Key (place_in a table key)) m)
    (keeps_bind _ _ (keeps_read (node_of_area a) (place_in a table key)) (λ row. keeps_walking m table key more (rows ++ stored_at (place_in a table key) row)))

keeps_scanning : (m : Mode) (table : ℕ) (areas : List ℕ) (rows : List Stored) → Keeps (scanning m table areas rows)
keeps_scanning m table [] rows = keeps_pure rows
keeps_scanning m table (a ∷ more) rows =
    keeps_then _ _ (keeps_lock (node_of_area a) (path.Whole (space_in a table)) m)
    (keeps_bind _ _ (keeps_scan (node_of_area a) (space_in a table)) (λ found. keeps_scanning m table more (rows ++ found)))

keeps_locking : (m : Mode) (table : ℕ) (areas : List ℕ) → Keeps (locking m table areas)
keeps_locking m table [] = keeps_pure tt
keeps_locking m table (a ∷ more) = keeps_then _ _ (keeps_lock (node_of_area a) (path.Whole (space_in a table)) m) (keeps_locking m table more)

-- the rows of a table in a space of the dictionary, under a lock
keeps_group : {A : Type 0} (space table : ℕ) (m : Mode) (f : List Stored → Planning A) → ((rows : List Stored) → Keeps (f rows))
    → Keeps (lock ds (path.Group (dictionary_space space) table) m >> (scan_group ds (dictionary_space space) table >>= f))
keeps_group space table m f k =
    keeps_then _ (scan_group ds (dictionary_space space) table >>= f) (keeps_lock ds (path.Group (dictionary_space space) table) m)
    (keeps_bind _ f (keeps_scan_group ds (dictionary_space space) table) k)

keeps_considered : (m : Mode) (f : Found) (o : Option ℤ) → Keeps (considered m f o)
keeps_considered m f (Some key) = keeps_bind _ _ (keeps_entry mode.S f.0 (group_of key)) (λ entry. keeps_walking m f.0 key (flat_map route (option_to_list entry)) [])
keeps_considered m f None = keeps_group entries_space f.0 mode.S _ (λ entries. keeps_scanning m f.0 (areas_of_routes entries) [])

-- ---- statements on a table

keeps_select : (name : List ℕ) (w : What) (pred : Option Pred) → Keeps (select_plan name w pred)
keeps_select name w pred =
    keeps_bind _ _ (keeps_table_of name) (λ f. keeps_then _ _ (keeps_refuse (first_refusal (select_refusals f.1 w pred)))
    (keeps_bind _ _ (keeps_considered mode.S f (point f.1 pred)) (λ rows. let t = with_lying f.1 (lying_rows rows) in
    keeps_then _ _ (keeps_refuse (first_refusal (select_refusals t w pred))) (keeps_pure (reply.Rows (shown t w (chosen t pred)))))))

keeps_delete : (name : List ℕ) (pred : Option Pred) → Keeps (delete_plan name pred)
keeps_delete name pred =
    keeps_bind _ _ (keeps_table_of name) (λ f. keeps_then _ _ (keeps_refuse (first_refusal (select_refusals f.1 what.All pred)))
    (keeps_bind _ _ (keeps_considered mode.X f (point f.1 pred)) (λ rows. let t = with_lying f.1 (lying_rows rows) in
    keeps_then _ _ (keeps_refuse (first_refusal (select_refusals t what.All pred)))
    (keeps_then _ _ (keeps_writes (map (λ l. removing l.0) (filter (λ l. chooses t pred l.1) (lying_rows rows)))) (keeps_pure (reply.Deleted (length (chosen t pred))))))))

keeps_update : (name : List ℕ) (sets : List Set) (pred : Option Pred) → Keeps (update_plan name sets pred)
keeps_update name sets pred =
    keeps_bind _ _ (keeps_table_of name) (λ f. keeps_then _ _ (keeps_refuse (first_refusal (update_refusals f.1 sets pred)))
    (keeps_bind _ _ (keeps_considered mode.X f (point f.1 pred)) (λ rows. let t = with_lying f.1 (lying_rows rows) in
    keeps_then _ _ (keeps_refuse (option_or (first_refusal (update_refusals t sets pred)) (first_some (assigning_refusal t sets) (chosen t pred))))
    (keeps_then _ _ (keeps_writes (map (λ l. putting l.0 (assigned t sets l.1)) (filter (λ l. chooses t pred l.1) (lying_rows rows)))) (keeps_pure (reply.Updated (length (chosen t pred))))))))

keeps_insert : (name : List ℕ) (values : List Value) → Keeps (insert_plan name values)
keeps_insert name values =
    keeps_bind _ _ (keeps_table_of name) (λ f. keeps_then _ _ (keeps_refuse (first_refusal (insert_refusals f.1 values)))
    (keeps_bind _ _ (keeps_entry mode.S f.0 (group_of (key_of f.1 values))) (λ entry. keeps_bind _ _ (keeps_some_or reply.NoArea entry)
    (λ e. keeps_bind _ _ (keeps_walking mode.X f.0 (key_of f.1 values) (route e) []) (λ rows.
    keeps_then _ _ (keeps_refuse (first_refusal (insert_refusals (with_lying f.1 (lying_rows rows)) values)))
    (keeps_then _ _ (keeps_writes (putting (place_in (target e) f.0 (key_of f.1 values)) values ∷ [])) (keeps_pure reply.Inserted)))))))

keeps_lock_table : (name : List ℕ) (exclusive : Bool) → Keeps (lock_plan name exclusive)
keeps_lock_table name exclusive =
    let m : Mode = if exclusive then mode.X else mode.S in
    keeps_bind _ _ (keeps_table_of name) (λ f. keeps_group entries_space f.0 mode.S _ (λ entries.
    keeps_then _ _ (keeps_locking m f.0 (areas_of_routes entries)) (keeps_pure reply.Locked)))

-- ---- definitions

keeps_areas : (m : Mode) → Keeps (areas m)
keeps_areas m = keeps_then _ _ (keeps_lock ds (path.Whole (dictionary_space areas_space)) m) (keeps_scan ds (dictionary_space areas_space))

keeps_create_area : (back_ends : ℕ) (name node : List ℕ) → Keeps (create_area_plan back_ends name node)
keeps_create_area back_ends name node =
    keeps_bind _ _ (keeps_areas mode.X) (λ rows. let s = with_areas nothing rows in let area = new_area s name (unwrap_or (back_end_named back_ends node) 0) in
    keeps_then _ _ (keeps_refuse (first_refusal (create_area_refusals back_ends s name node)))
    (keeps_then _ _ (keeps_writes (put_row (at_place areas_space 0 area.number (area_row area)) ∷ [])) (keeps_pure reply.Created)))

keeps_lock_group : (space table : ℕ) → Keeps (lock_group space table)
keeps_lock_group space table = keeps_lock ds (path.Group (dictionary_space space) table) mode.X

keeps_create_table : (name : List ℕ) (columns : List Column) (key : List ℕ) (area_names : List (List ℕ)) → Keeps (create_table_plan name columns key area_names)
keeps_create_table name columns key area_names =
    keeps_then _ _ (keeps_lock ds (path.Whole (dictionary_space tables_space)) mode.X) (keeps_bind _ _ (keeps_scan ds (dictionary_space tables_space)) (λ tables.
    let s = with_tables nothing tables in
    keeps_then _ _ (keeps_refuse (first_refusal (take 5 (create_table_refusals s name columns key area_names)))) (keeps_bind _ _ (keeps_areas mode.S) (λ rows.
    let u = with_areas s rows in let spread = new_spread u name area_names in
    keeps_then _ _ (keeps_refuse (first_refusal (create_table_refusals u name columns key area_names)))
    (keeps_then _ _ (keeps_lock_group members_space spread.number) (keeps_then _ _ (keeps_lock_group entries_space spread.number)
    (keeps_then _ _ (keeps_writes (map put_row (new_rows (new_table name columns key) spread))) (keeps_pure reply.Created))))))))

keeps_spreading : (f : Found) (area : Option Area) (members : List Stored) → Keeps (spreading f area members)
keeps_spreading f area members =
    keeps_then _ _ (keeps_refuse (first_refusal (take 2 (add_area_refusals (spread_of f members []) area)))) (keeps_group entries_space f.0 mode.X _ (λ entries.
    let t = spread_of f members entries in
    keeps_then _ _ (keeps_refuse (first_refusal (add_area_refusals t area)))
    (keeps_then _ _ (keeps_writes (put_row (at_place members_space f.0 (length t.members + 1) (member_row (number_of area))) ∷ map put_row (changed_rows t (reassign t.entries t.members (number_of area)))))
    (keeps_pure reply.Added))))

keeps_add_area : (table area_name : List ℕ) → Keeps (add_area_plan table area_name)
keeps_add_area table area_name =
    keeps_bind _ _ (keeps_table_of table) (λ f. keeps_bind _ _ (keeps_areas mode.S) (λ rows. let area = area_named (with_areas nothing rows) area_name in
    keeps_then _ _ (keeps_some_or reply.NoArea area) (keeps_group members_space f.0 mode.X (spreading f area) (λ members. keeps_spreading f area members))))

keeps_plan : (back_ends : ℕ) (st : Statement) → Keeps (plan back_ends st)
unfolding plan
keeps_plan back_ends (statement.CreateArea name node) = keeps_create_area back_ends name node
keeps_plan back_ends (statement.CreateTable name columns key area_names) = keeps_create_table name columns key area_names
keeps_plan back_ends (statement.AddArea table area) = keeps_add_area table area
keeps_plan back_ends (statement.Insert table values) = keeps_insert table values
keeps_plan back_ends (statement.Select w table pred) = keeps_select table w pred
keeps_plan back_ends (statement.Update table sets pred) = keeps_update table sets pred
keeps_plan back_ends (statement.Delete table pred) = keeps_delete table pred
keeps_plan back_ends (statement.LockTable table exclusive) = keeps_lock_table table exclusive
keeps_plan back_ends statement.Commit = keeps_pure reply.RolledBack
keeps_plan back_ends statement.Rollback = keeps_pure reply.RolledBack

-- ---- the counts

counts_are : (u v : Use) (calls : List Call) (r : Result Reply Reply) → Out {A = Reply} Then (u.locks + grants_in calls) (u.bytes + bytes_in calls) (r, v)
    → IsTrue (not (is_outside (reply_in r))) → IsWithin v × (spent_of v ≡ spending (spent_of u) calls)
counts_are u v calls r h inside = by (held r h inside)
  where
    by : Holds v (u.locks + grants_in calls) (u.bytes + bytes_in calls) → IsWithin v × (spent_of v ≡ spending (spent_of u) calls)
    by k = (
      record { locks = omega (arith, k.locks, k.few); bytes = omega (arith, k.bytes, k.small) },
      λ i. record { bytes = k.bytes i; locks = k.locks i },
    )

    held : (o : Result Reply Reply) → Out {A = Reply} Then (u.locks + grants_in calls) (u.bytes + bytes_in calls) (o, v) → IsTrue (not (is_outside (reply_in o)))
        → Holds v (u.locks + grants_in calls) (u.bytes + bytes_in calls)
    held (Ok x) k inside = k
    held (Err x) k inside = k inside

pub plan_counts : (st : Statement) → PlanCounts st
plan_counts st back_ends u v calls r within follows =
    let e = always_followed (Out {A = Reply} Then) false (plan back_ends st u) calls (r, v) follows u.locks u.bytes
    ((keeps_plan back_ends st).holds u u.locks u.bytes (record { locks = refl; bytes = refl; few = within.locks; small = within.bytes })) in
    (e.0, λ inside. counts_are u v calls r e.1 inside)
