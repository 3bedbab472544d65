-- Each statement's plan asks what is permitted.
use Rattle.std.proofs.Common.{inl, ℕ, ◌+◌, ℤ, List, [], ◌∷◌, ◌++◌, length, map, filter, Option, Some, None, Bool, refl, take}
use Rattle.std.specs.Prelude.{flat_map, unwrap_or, if◌then◌else◌}
use Rattle.std.specs.Option.{option_to_list, option_or}
use Rattle.hb_types.specs.declared.change.Stored.{Stored}
use Rattle.hb_types.specs.declared.lock.Mode.{Mode}
use Rattle.hb_types.specs.declared.lock.Mode.TheVariants as mode
use Rattle.hb_types.specs.declared.places.Path.TheVariants as path
use Rattle.hb_types.specs.declared.value.Column.{Column}
use Rattle.hb_types.specs.declared.value.Value.{Value}
use Rattle.hb_types.specs.Groups.{group_of, route, reassign, target}
use Rattle.hb_types.specs.Places.{node_of_area}
use Rattle.hb_model.specs.declared.condition.Pred.{Pred}
use Rattle.hb_model.specs.declared.reply.Reply.TheVariants as reply
use Rattle.hb_model.specs.declared.statement.Set.{Set}
use Rattle.hb_model.specs.declared.statement.Statement.{Statement}
use Rattle.hb_model.specs.declared.statement.Statement.TheVariants as statement
use Rattle.hb_model.specs.declared.statement.What.{What}
use Rattle.hb_model.specs.declared.statement.What.TheVariants as what
use Rattle.hb_model.specs.Define.{new_area, new_table, new_spread, create_area_refusals, create_table_refusals, add_area_refusals}
use Rattle.hb_model.specs.Dictionary.{area_row, at_place, member_row}
use Rattle.hb_model.specs.Names.{back_end_named}
use Rattle.hb_model.specs.Refusals.{first_refusal, insert_refusals, select_refusals, update_refusals}
use Rattle.hb_model.specs.Rows.{assigned, assigning_refusal, chosen, chooses, first_some, key_of, point, shown}
use Rattle.hb_model.specs.Spots.{ds, dictionary_space, areas_space, tables_space, members_space, entries_space, entry_place, place_in, space_in}
use Rattle.hb_model.specs.State.{Area, area_named, nothing}
use Rattle.hb_model.specs.Told.{Found, entry_of, table_among}
use Rattle.hb_talk.specs.Plans.{lying_rows, with_lying, putting, removing, names, table_of, entry_under, walking, scanning, locking, areas_of_routes, considered, stored_at, select_plan, delete_plan, update_plan, insert_plan, lock_plan}
use Rattle.hb_talk.specs.PlansDefine.{with_areas, with_tables, put_row, new_rows, changed_rows, spread_of, number_of, plan, areas, lock_group, create_area_plan, create_table_plan, spreading, add_area_plan}
use Rattle.hb_talk.specs.Talk.{Planning, ◌>>=◌, ◌>>◌, lock, scan_group}
use Rattle.hb_obeys.proofs.Obeying.{Caller}
use Rattle.hb_obeys.proofs.Planning.{Keeps, keeps_bind, keeps_then, keeps_pure, keeps_refuse, keeps_some_or, keeps_read, keeps_scan, keeps_scan_group, keeps_lock, keeps_locked, keeps_writes}

module _ (w : Caller) (begun : ℕ) where
  -- the next step of a plan that needs no node before it
  next : {A B : Type 0} (p : Planning A) (f : A → Planning B) → Keeps w begun [] p → ((a : A) → Keeps w begun [] (f a)) → Keeps w begun [] (p >>= f)
  next p f k g = keeps_bind w begun [] p f k g

  also : {A B : Type 0} (p : Planning A) (q : Planning B) → Keeps w begun [] p → Keeps w begun [] q → Keeps w begun [] (p >> q)
  also p q k l = keeps_then w begun [] p q k l

  -- ---- parts

  keeps_names : Keeps w begun [] names
  keeps_names = keeps_locked w begun [] ds _ _ _ (keeps_scan w begun (ds ∷ []) ds (dictionary_space tables_space) (inl refl))

  pub keeps_table_of : (name : List ℕ) → Keeps w begun [] (table_of name)
  keeps_table_of name = next _ _ keeps_names (λ rows. keeps_some_or w begun reply.NoTable (table_among rows name))

  pub keeps_entry : (m : Mode) (table group : ℕ) → Keeps w begun [] (entry_under m table group)
  keeps_entry m table group =
      keeps_locked w begun [] ds _ _ _ (keeps_bind w begun (ds ∷ []) _ _ (keeps_read w begun (ds ∷ []) ds (entry_place table group) (inl refl)) (λ row. keeps_pure w begun (entry_of row)))

  keeps_walking : (m : Mode) (table : ℕ) (key : ℤ) (areas : List ℕ) (rows : List Stored) → Keeps w begun [] (walking m table key areas rows)
  keeps_walking m table key [] rows = keeps_pure w begun rows
  keeps_walking m table key (a ∷ more) rows =
      let node = node_of_area a in
      keeps_locked w begun [] node _ _ _
      (keeps_bind w begun (node ∷ []) _ _ (keeps_read w begun (node ∷ []) node (place_in a table key) (inl refl)) (λ row. keeps_walking m table key more (rows ++ stored_at (place_in a table key) row)))

  keeps_scanning : (m : Mode) (table : ℕ) (areas : List ℕ) (rows : List Stored) → Keeps w begun [] (scanning m table areas rows)
  keeps_scanning m table [] rows = keeps_pure w begun rows
  keeps_scanning m table (a ∷ more) rows =
      let node = node_of_area a in
      keeps_locked w begun [] node _ _ _
      (keeps_bind w begun (node ∷ []) _ _ (keeps_scan w begun (node ∷ []) node (space_in a table) (inl refl)) (λ found. keeps_scanning m table more (rows ++ found)))

  keeps_locking : (m : Mode) (table : ℕ) (areas : List ℕ) → Keeps w begun [] (locking m table areas)
  keeps_locking m table [] = keeps_pure w begun tt
  keeps_locking m table (a ∷ more) = also _ _ (keeps_lock w begun (node_of_area a) (path.Whole (space_in a table)) m) (keeps_locking m table more)

  -- the rows of a table in a space of the dictionary, under a lock
  pub keeps_group : {A : Type 0} (space table : ℕ) (m : Mode) (f : List Stored → Planning A) → ((rows : List Stored) → Keeps w begun [] (f rows))
      → Keeps w begun [] (lock ds (path.Group (dictionary_space space) table) m >> (scan_group ds (dictionary_space space) table >>= f))
  keeps_group space table m f k =
      keeps_locked w begun [] ds (path.Group (dictionary_space space) table) m (scan_group ds (dictionary_space space) table >>= f)
      (keeps_bind w begun (ds ∷ []) _ f (keeps_scan_group w begun (ds ∷ []) ds (dictionary_space space) table (inl refl)) k)

  keeps_considered : (m : Mode) (f : Found) (o : Option ℤ) → Keeps w begun [] (considered m f o)
  keeps_considered m f (Some key) = next _ _ (keeps_entry mode.S f.0 (group_of key)) (λ entry. keeps_walking m f.0 key (flat_map route (option_to_list entry)) [])
  keeps_considered m f None = keeps_group entries_space f.0 mode.S _ (λ entries. keeps_scanning m f.0 (areas_of_routes entries) [])

  -- ---- statements on a table

  keeps_select : (name : List ℕ) (what_is : What) (pred : Option Pred) → Keeps w begun [] (select_plan name what_is pred)
  keeps_select name what_is pred =
      next _ _ (keeps_table_of name) (λ f. also _ _ (keeps_refuse w begun (first_refusal (select_refusals f.1 what_is pred)))
      (next _ _ (keeps_considered mode.S f (point f.1 pred)) (λ rows. let t = with_lying f.1 (lying_rows rows) in
      also _ _ (keeps_refuse w begun (first_refusal (select_refusals t what_is pred))) (keeps_pure w begun (reply.Rows (shown t what_is (chosen t pred)))))))

  keeps_delete : (name : List ℕ) (pred : Option Pred) → Keeps w begun [] (delete_plan name pred)
  keeps_delete name pred =
      next _ _ (keeps_table_of name) (λ f. also _ _ (keeps_refuse w begun (first_refusal (select_refusals f.1 what.All pred)))
      (next _ _ (keeps_considered mode.X f (point f.1 pred)) (λ rows. let t = with_lying f.1 (lying_rows rows) in
      also _ _ (keeps_refuse w begun (first_refusal (select_refusals t what.All pred)))
      (also _ _ (keeps_writes w begun (map (λ l. removing l.0) (filter (λ l. chooses t pred l.1) (lying_rows rows)))) (keeps_pure w begun (reply.Deleted (length (chosen t pred))))))))

  keeps_update : (name : List ℕ) (sets : List Set) (pred : Option Pred) → Keeps w begun [] (update_plan name sets pred)
  keeps_update name sets pred =
      next _ _ (keeps_table_of name) (λ f. also _ _ (keeps_refuse w begun (first_refusal (update_refusals f.1 sets pred)))
      (next _ _ (keeps_considered mode.X f (point f.1 pred)) (λ rows. let t = with_lying f.1 (lying_rows rows) in
      also _ _ (keeps_refuse w begun (option_or (first_refusal (update_refusals t sets pred)) (first_some (assigning_refusal t sets) (chosen t pred))))
      (also _ _ (keeps_writes w begun (map (λ l. putting l.0 (assigned t sets l.1)) (filter (λ l. chooses t pred l.1) (lying_rows rows)))) (keeps_pure w begun (reply.Updated (length (chosen t pred))))))))

  keeps_insert : (name : List ℕ) (values : List Value) → Keeps w begun [] (insert_plan name values)
  keeps_insert name values =
      next _ _ (keeps_table_of name) (λ f. also _ _ (keeps_refuse w begun (first_refusal (insert_refusals f.1 values)))
      (next _ _ (keeps_entry mode.S f.0 (group_of (key_of f.1 values))) (λ entry. next _ _ (keeps_some_or w begun reply.NoArea entry)
      (λ e. next _ _ (keeps_walking mode.X f.0 (key_of f.1 values) (route e) []) (λ rows.
      also _ _ (keeps_refuse w begun (first_refusal (insert_refusals (with_lying f.1 (lying_rows rows)) values)))
      (also _ _ (keeps_writes w begun (putting (place_in (target e) f.0 (key_of f.1 values)) values ∷ [])) (keeps_pure w begun reply.Inserted)))))))

  keeps_lock_table : (name : List ℕ) (exclusive : Bool) → Keeps w begun [] (lock_plan name exclusive)
  keeps_lock_table name exclusive =
      let m : Mode = if exclusive then mode.X else mode.S in
      next _ _ (keeps_table_of name) (λ f. keeps_group entries_space f.0 mode.S _ (λ entries.
      also _ _ (keeps_locking m f.0 (areas_of_routes entries)) (keeps_pure w begun reply.Locked)))

  -- ---- definitions

  keeps_areas : (m : Mode) → Keeps w begun [] (areas m)
  keeps_areas m = keeps_locked w begun [] ds _ _ _ (keeps_scan w begun (ds ∷ []) ds (dictionary_space areas_space) (inl refl))

  keeps_create_area : (back_ends : ℕ) (name node : List ℕ) → Keeps w begun [] (create_area_plan back_ends name node)
  keeps_create_area back_ends name node =
      next _ _ (keeps_areas mode.X) (λ rows. let s = with_areas nothing rows in let area = new_area s name (unwrap_or (back_end_named back_ends node) 0) in
      also _ _ (keeps_refuse w begun (first_refusal (create_area_refusals back_ends s name node)))
      (also _ _ (keeps_writes w begun (put_row (at_place areas_space 0 area.number (area_row area)) ∷ [])) (keeps_pure w begun reply.Created)))

  keeps_lock_group : (space table : ℕ) → Keeps w begun [] (lock_group space table)
  keeps_lock_group space table = keeps_lock w begun ds (path.Group (dictionary_space space) table) mode.X

  keeps_create_table : (name : List ℕ) (columns : List Column) (key : List ℕ) (area_names : List (List ℕ)) → Keeps w begun [] (create_table_plan name columns key area_names)
  keeps_create_table name columns key area_names =
      keeps_locked w begun [] ds _ _ _ (keeps_bind w begun (ds ∷ []) _ _ (keeps_scan w begun (ds ∷ []) ds (dictionary_space tables_space) (inl refl)) (λ tables.
      let s = with_tables nothing tables in
      also _ _ (keeps_refuse w begun (first_refusal (take 5 (create_table_refusals s name columns key area_names)))) (next _ _ (keeps_areas mode.S) (λ rows.
      let u = with_areas s rows in let spread = new_spread u name area_names in
      also _ _ (keeps_refuse w begun (first_refusal (create_table_refusals u name columns key area_names)))
      (also _ _ (keeps_lock_group members_space spread.number) (also _ _ (keeps_lock_group entries_space spread.number)
      (also _ _ (keeps_writes w begun (map put_row (new_rows (new_table name columns key) spread))) (keeps_pure w begun reply.Created))))))))

  keeps_spreading : (f : Found) (area : Option Area) (members : List Stored) → Keeps w begun [] (spreading f area members)
  keeps_spreading f area members =
      also _ _ (keeps_refuse w begun (first_refusal (take 2 (add_area_refusals (spread_of f members []) area)))) (keeps_group entries_space f.0 mode.X _ (λ entries.
      let t = spread_of f members entries in
      also _ _ (keeps_refuse w begun (first_refusal (add_area_refusals t area)))
      (also _ _ (keeps_writes w begun (put_row (at_place members_space f.0 (length t.members + 1) (member_row (number_of area))) ∷ map put_row (changed_rows t (reassign t.entries t.members (number_of area)))))
      (keeps_pure w begun reply.Added))))

  keeps_add_area : (table area_name : List ℕ) → Keeps w begun [] (add_area_plan table area_name)
  keeps_add_area table area_name =
      next _ _ (keeps_table_of table) (λ f. next _ _ (keeps_areas mode.S) (λ rows. let area = area_named (with_areas nothing rows) area_name in
      also _ _ (keeps_some_or w begun reply.NoArea area) (keeps_group members_space f.0 mode.X (spreading f area) (λ members. keeps_spreading f area members))))

  pub keeps_plan : (back_ends : ℕ) (st : Statement) → Keeps w begun [] (plan back_ends st)
  unfolding plan
  keeps_plan back_ends (statement.CreateArea name node) = keeps_create_area back_ends name node
  keeps_plan back_ends (statement.CreateTable name columns key area_names) = keeps_create_table name columns key area_names
  keeps_plan back_ends (statement.AddArea table area) = keeps_add_area table area
  keeps_plan back_ends (statement.Insert table values) = keeps_insert table values
  keeps_plan back_ends (statement.Select what_is table pred) = keeps_select table what_is pred
  keeps_plan back_ends (statement.Update table sets pred) = keeps_update table sets pred
  keeps_plan back_ends (statement.Delete table pred) = keeps_delete table pred
  keeps_plan back_ends (statement.LockTable table exclusive) = keeps_lock_table table exclusive
  keeps_plan back_ends statement.Commit = keeps_pure w begun reply.RolledBack
  keeps_plan back_ends statement.Rollback = keeps_pure w begun reply.RolledBack
