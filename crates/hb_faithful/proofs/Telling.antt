-- Each plan ends with a reply that leaves the transaction open, or with a refusal that says that it was rolled back exactly if the
-- session rolls it back; and only a SELECT shows rows.
use Rattle.std.proofs.Common.{◌≡◌, ℕ, ◌+◌, ℤ, List, [], ◌∷◌, ◌++◌, length, map, filter, Option, Some, None, Result, Ok, Err, Bool, true, false, not, cond, refl, subst, sym, ap, ◌∙◌, take}
use Rattle.std.specs.Prelude.{◌&&◌, ◌||◌, IsTrue, flat_map, unwrap_or, if◌then◌else◌}
use Rattle.std.specs.Option.{option_or, option_to_list}
use Rattle.std.proofs.lemmas.Bool.{and_parts, false≢true}
use Rattle.hb_types.specs.declared.change.Stored.{Stored}
use Rattle.hb_types.specs.declared.trail.Call.{Call}
use Rattle.hb_types.specs.declared.lock.Mode.{Mode}
use Rattle.hb_types.specs.declared.lock.Mode.TheVariants as mode
use Rattle.hb_types.specs.declared.places.Path.TheVariants as path
use Rattle.hb_types.specs.declared.value.Column.{Column}
use Rattle.hb_types.specs.declared.value.Value.{Value}
use Rattle.hb_types.specs.Groups.{group_of, reassign, route, target}
use Rattle.hb_types.specs.Places.{node_of_area}
use Rattle.hb_model.specs.declared.condition.Pred.{Pred}
use Rattle.hb_model.specs.declared.reply.Reply.{Reply}
use Rattle.hb_model.specs.declared.reply.Reply.TheVariants as reply
use Rattle.hb_model.specs.declared.statement.Set.{Set}
use Rattle.hb_model.specs.declared.statement.Statement.{Statement}
use Rattle.hb_model.specs.declared.statement.Statement.TheVariants as statement
use Rattle.hb_model.specs.declared.statement.What.{What}
use Rattle.hb_model.specs.declared.statement.What.TheVariants as what
use Rattle.hb_model.specs.declared.table.Table.{Table}
use Rattle.hb_model.specs.Define.{add_area_refusals, create_area_refusals, create_table_refusals, new_area, new_spread, new_table}
use Rattle.hb_model.specs.Dictionary.{area_row, at_place, member_row}
use Rattle.hb_model.specs.Names.{back_end_named}
use Rattle.hb_model.specs.Outside.{says_undone}
use Rattle.hb_model.specs.Refusals.{first_refusal, insert_refusals, select_refusals, update_refusals}
use Rattle.hb_model.specs.Rows.{assigned, assigning_refusal, chosen, chooses, first_some, is_too_long, key_of, point, shown, value_refusal}
use Rattle.hb_model.specs.Spots.{ds, areas_space, dictionary_space, entries_space, entry_place, members_space, place_in, space_in, tables_space}
use Rattle.hb_model.specs.State.{Area, area_named, nothing}
use Rattle.hb_model.specs.Told.{Found, entry_of, table_among}
use Rattle.hb_model.specs.Values.{value_of}
use Rattle.hb_talk.specs.Plans.{areas_of_routes, considered, delete_plan, entry_under, insert_plan, lock_plan, locking, lying_rows, names, putting, removing, scanning, select_plan, stored_at, table_of, update_plan, walking, with_lying}
use Rattle.hb_talk.specs.PlansDefine.{add_area_plan, areas, changed_rows, create_area_plan, create_table_plan, new_rows, number_of, plan, put_row, spread_of, spreading, with_areas, with_tables}
use Rattle.hb_plancalc.specs.Counted.{reply_in}
use Rattle.hb_faithful.specs.Planned.{PlanReplies, PlanTellsUndone, is_planned, is_rolled_back}
use Rattle.hb_law.specs.Standing.{leaves_open}
use Rattle.hb_law.specs.Transactions.{is_rows, is_select}
use Rattle.hb_talk.specs.Sessions.{rolls_back}
use Rattle.hb_talk.specs.Talk.{Follows, Planning, Use, ◌>>=◌, ◌>>◌, lock, pure, scan_group}
use Rattle.hb_faithful.proofs.Undone.{AreFrank, Any, Ends, IsFrank, Tells, frank_first, said, tells_bind, tells_first, tells_lock, tells_read, tells_pure, tells_refuse, tells_scan, tells_scan_group, tells_some_or, tells_then, tells_writes}

-- ---- parts

tells_table : (name : List ℕ) → Tells (table_of name) Any
tells_table name =
    tells_bind names _ Any (tells_then _ _ Any (tells_lock ds (path.Whole (dictionary_space tables_space)) mode.S) (tells_scan ds (dictionary_space tables_space)))
    (λ rows. tells_some_or reply.NoTable (table_among rows name) refl)

tells_entry : (m : Mode) (table group : ℕ) → Tells (entry_under m table group) Any
tells_entry m table group =
    tells_then _ _ Any (tells_lock ds (path.Key (entry_place table group)) m) (tells_bind _ _ Any (tells_read ds (entry_place table group)) (λ row. tells_pure (entry_of row) Any tt))

tells_walking : (m : Mode) (table : ℕ) (key : ℤ) (areas : List ℕ) (rows : List Stored) → Tells (walking m table key areas rows) Any
tells_walking m table key [] rows = tells_pure rows Any tt
tells_walking m table key (a ∷ more) rows =
    tells_then _ _ Any (tells_lock (node_of_area a) (path.Key (place_in a table key)) m)
    (tells_bind _ _ Any (tells_read (node_of_area a) (place_in a table key)) (λ row. tells_walking m table key more (rows ++ stored_at (place_in a table key) row)))

tells_scanning : (m : Mode) (table : ℕ) (areas : List ℕ) (rows : List Stored) → Tells (scanning m table areas rows) Any
tells_scanning m table [] rows = tells_pure rows Any tt
tells_scanning m table (a ∷ more) rows =
    tells_then _ _ Any (tells_lock (node_of_area a) (path.Whole (space_in a table)) m)
    (tells_bind _ _ Any (tells_scan (node_of_area a) (space_in a table)) (λ found. tells_scanning m table more (rows ++ found)))

tells_locking : (m : Mode) (table : ℕ) (areas : List ℕ) → Tells (locking m table areas) Any
tells_locking m table [] = tells_pure tt Any tt
tells_locking m table (a ∷ more) = tells_then _ _ Any (tells_lock (node_of_area a) (path.Whole (space_in a table)) m) (tells_locking m table more)

tells_group : {A : Type 0} (space table : ℕ) (m : Mode) (f : List Stored → Planning A) (Q : A → Type 0) → ((rows : List Stored) → Tells (f rows) Q)
    → Tells (lock ds (path.Group (dictionary_space space) table) m >> (scan_group ds (dictionary_space space) table >>= f)) Q
tells_group space table m f Q k =
    tells_then _ (scan_group ds (dictionary_space space) table >>= f) Q (tells_lock ds (path.Group (dictionary_space space) table) m)
    (tells_bind _ f Q (tells_scan_group ds (dictionary_space space) table) k)

tells_considered : (m : Mode) (f : Found) (o : Option ℤ) → Tells (considered m f o) Any
tells_considered m f (Some key) =
    tells_bind _ _ Any (tells_entry mode.S f.0 (group_of key)) (λ entry. tells_walking m f.0 key (flat_map route (option_to_list entry)) [])
tells_considered m f None = tells_group entries_space f.0 mode.S _ Any (λ entries. tells_scanning m f.0 (areas_of_routes entries) [])

tells_areas : (m : Mode) → Tells (areas m) Any
tells_areas m = tells_then _ _ Any (tells_lock ds (path.Whole (dictionary_space areas_space)) m) (tells_scan ds (dictionary_space areas_space))

-- ---- refusals

select_frank : (t : Table) (w : What) (pred : Option Pred) → AreFrank (select_refusals t w pred)
select_frank t w pred = (refl, (refl, (refl, tt)))

update_frank : (t : Table) (sets : List Set) (pred : Option Pred) → AreFrank (update_refusals t sets pred)
update_frank t sets pred = (refl, (refl, (refl, (refl, (refl, tt)))))

module _ (t : Table) where
  either : (o p : Option Reply) → ((x : Reply) → o ≡ Some x → IsFrank x) → ((x : Reply) → p ≡ Some x → IsFrank x) → (x : Reply) → option_or o p ≡ Some x → IsFrank x
  either None p f g x k = g x k
  either (Some y) p f g x k = f x k

  value_frank : (s : Set) (o : Option Value) → (x : Reply) → value_refusal t.columns s.name o ≡ Some x → IsFrank x
  value_frank s None x k = let same : reply.Overflow ≡ x = cc in subst IsFrank same refl
  value_frank s (Some v) x k = by (is_too_long t.columns s.name v) k
    where
      by : (b : Bool) → cond b (Some reply.TooLong) None ≡ Some x → IsFrank x
      by true e = let same : reply.TooLong ≡ x = cc in subst IsFrank same refl
      by false e = cc

  sets_frank : (row : List Value) (sets : List Set) (x : Reply) → assigning_refusal t sets row ≡ Some x → IsFrank x
  sets_frank row [] x k = cc
  sets_frank row (s ∷ more) x k =
      either (value_refusal t.columns s.name (value_of t.columns row s.value)) (assigning_refusal t more row) (value_frank s (value_of t.columns row s.value)) (sets_frank row more) x k

  assigning_frank : (sets : List Set) (rows : List (List Value)) (x : Reply) → first_some (assigning_refusal t sets) rows ≡ Some x → IsFrank x
  assigning_frank sets [] x k = cc
  assigning_frank sets (row ∷ rows) x k = either (assigning_refusal t sets row) (first_some (assigning_refusal t sets) rows) (sets_frank row sets) (assigning_frank sets rows) x k

late_frank : (t : Table) (sets : List Set) (pred : Option Pred) (o : Option Reply) → ((r : Reply) → o ≡ Some r → IsFrank r) → (r : Reply)
    → option_or o (first_some (assigning_refusal t sets) (chosen t pred)) ≡ Some r → IsFrank r
late_frank t sets pred o f r h = either t o (first_some (assigning_refusal t sets) (chosen t pred)) f (assigning_frank t sets (chosen t pred)) r h

-- ---- statements

-- a reply that leaves the transaction open, with rows or with none
abbrev pub IsShown : Reply → Type 0
IsShown r = leaves_open r && true ≡ true

abbrev pub IsKept : Reply → Type 0
IsKept r = leaves_open r && not (is_rows r) ≡ true

-- what a statement may be answered where its transaction goes on
abbrev pub IsDue : Statement → Reply → Type 0
IsDue st r = leaves_open r && (is_select st || not (is_rows r)) ≡ true

tells_select : (name : List ℕ) (w : What) (pred : Option Pred) → Tells (select_plan name w pred) IsShown
tells_select name w pred =
    tells_bind _ _ IsShown (tells_table name) (λ f. tells_then _ _ IsShown (tells_first (select_refusals f.1 w pred) (select_frank f.1 w pred))
    (tells_bind _ _ IsShown (tells_considered mode.S f (point f.1 pred)) (λ rows. let t = with_lying f.1 (lying_rows rows) in
    tells_then _ (pure (reply.Rows (shown t w (chosen t pred)))) IsShown (tells_first (select_refusals t w pred) (select_frank t w pred)) (tells_pure ((reply.Rows (shown t w (chosen t pred)))) IsShown refl))))

tells_delete : (name : List ℕ) (pred : Option Pred) → Tells (delete_plan name pred) IsKept
tells_delete name pred =
    tells_bind _ _ IsKept (tells_table name) (λ f. tells_then _ _ IsKept (tells_first (select_refusals f.1 what.All pred) (select_frank f.1 what.All pred))
    (tells_bind _ _ IsKept (tells_considered mode.X f (point f.1 pred)) (λ rows. let t = with_lying f.1 (lying_rows rows) in
    tells_then _ _ IsKept (tells_first (select_refusals t what.All pred) (select_frank t what.All pred))
    (tells_then _ (pure (reply.Deleted (length (chosen t pred)))) IsKept (tells_writes (map (λ l. removing l.0) (filter (λ l. chooses t pred l.1) (lying_rows rows)))) (tells_pure ((reply.Deleted (length (chosen t pred)))) IsKept refl)))))

tells_update : (name : List ℕ) (sets : List Set) (pred : Option Pred) → Tells (update_plan name sets pred) IsKept
tells_update name sets pred =
    tells_bind _ _ IsKept (tells_table name) (λ f. tells_then _ _ IsKept (tells_first (update_refusals f.1 sets pred) (update_frank f.1 sets pred))
    (tells_bind _ _ IsKept (tells_considered mode.X f (point f.1 pred)) (λ rows. let t = with_lying f.1 (lying_rows rows) in
    tells_then _ _ IsKept (tells_refuse (option_or (first_refusal (update_refusals t sets pred)) (first_some (assigning_refusal t sets) (chosen t pred)))
    (late_frank t sets pred (first_refusal (update_refusals t sets pred)) (frank_first (update_refusals t sets pred) (update_frank t sets pred))))
    (tells_then _ (pure (reply.Updated (length (chosen t pred)))) IsKept (tells_writes (map (λ l. putting l.0 (assigned t sets l.1)) (filter (λ l. chooses t pred l.1) (lying_rows rows)))) (tells_pure ((reply.Updated (length (chosen t pred)))) IsKept refl)))))

insert_frank : (t : Table) (values : List Value) → AreFrank (insert_refusals t values)
insert_frank t values = (refl, (refl, (refl, (refl, tt))))

tells_insert : (name : List ℕ) (values : List Value) → Tells (insert_plan name values) IsKept
tells_insert name values =
    tells_bind _ _ IsKept (tells_table name) (λ f. tells_then _ _ IsKept (tells_first (insert_refusals f.1 values) (insert_frank f.1 values))
    (tells_bind _ _ IsKept (tells_entry mode.S f.0 (group_of (key_of f.1 values))) (λ entry. tells_bind _ _ IsKept (tells_some_or reply.NoArea entry refl)
    (λ e. tells_bind _ _ IsKept (tells_walking mode.X f.0 (key_of f.1 values) (route e) []) (λ rows. let t = with_lying f.1 (lying_rows rows) in
    tells_then _ _ IsKept (tells_first (insert_refusals t values) (insert_frank t values))
    (tells_then _ (pure reply.Inserted) IsKept (tells_writes (putting (place_in (target e) f.0 (key_of f.1 values)) values ∷ [])) (tells_pure reply.Inserted IsKept refl)))))))

tells_lock_table : (name : List ℕ) (exclusive : Bool) → Tells (lock_plan name exclusive) IsKept
tells_lock_table name exclusive =
    let m : Mode = if exclusive then mode.X else mode.S in
    tells_bind _ _ IsKept (tells_table name) (λ f. tells_group entries_space f.0 mode.S _ IsKept (λ entries.
    tells_then _ (pure reply.Locked) IsKept (tells_locking m f.0 (areas_of_routes entries)) (tells_pure reply.Locked IsKept refl)))

-- ---- definitions

tells_create_area : (back_ends : ℕ) (name node : List ℕ) → Tells (create_area_plan back_ends name node) IsKept
tells_create_area back_ends name node =
    tells_bind _ _ IsKept (tells_areas mode.X) (λ rows. let s = with_areas nothing rows in let area = new_area s name (unwrap_or (back_end_named back_ends node) 0) in
    tells_then _ _ IsKept (tells_first (create_area_refusals back_ends s name node) (refl, (refl, (refl, tt))))
    (tells_then _ (pure reply.Created) IsKept (tells_writes (put_row (at_place areas_space 0 area.number (area_row area)) ∷ [])) (tells_pure reply.Created IsKept refl)))

tells_create_table : (name : List ℕ) (columns : List Column) (key : List ℕ) (area_names : List (List ℕ)) → Tells (create_table_plan name columns key area_names) IsKept
tells_create_table name columns key area_names =
    tells_then _ _ IsKept (tells_lock ds (path.Whole (dictionary_space tables_space)) mode.X) (tells_bind _ _ IsKept (tells_scan ds (dictionary_space tables_space)) (λ tables.
    let s = with_tables nothing tables in
    tells_then _ _ IsKept (tells_first (take 5 (create_table_refusals s name columns key area_names)) (refl, (refl, (refl, (refl, (refl, tt))))))
    (tells_bind _ _ IsKept (tells_areas mode.S) (λ rows.
    let u = with_areas s rows in let spread = new_spread u name area_names in
    tells_then _ _ IsKept (tells_first (create_table_refusals u name columns key area_names) (refl, (refl, (refl, (refl, (refl, (refl, (refl, tt))))))))
    (tells_then _ _ IsKept (tells_lock ds (path.Group (dictionary_space members_space) spread.number) mode.X)
    (tells_then _ _ IsKept (tells_lock ds (path.Group (dictionary_space entries_space) spread.number) mode.X)
    (tells_then _ (pure reply.Created) IsKept (tells_writes (map put_row (new_rows (new_table name columns key) spread))) (tells_pure reply.Created IsKept refl))))))))

tells_spreading : (f : Found) (area : Option Area) (members : List Stored) → Tells (spreading f area members) IsKept
tells_spreading f area members =
    tells_then _ _ IsKept (tells_first (take 2 (add_area_refusals (spread_of f members []) area)) (refl, (refl, tt))) (tells_group entries_space f.0 mode.X _ IsKept (λ entries.
    let t = spread_of f members entries in
    tells_then _ _ IsKept (tells_first (add_area_refusals t area) (refl, (refl, (refl, (refl, tt)))))
    (tells_then _ (pure reply.Added) IsKept
    (tells_writes (put_row (at_place members_space f.0 (length t.members + 1) (member_row (number_of area))) ∷ map put_row (changed_rows t (reassign t.entries t.members (number_of area))))) (tells_pure reply.Added IsKept refl))))

tells_add_area : (table area_name : List ℕ) → Tells (add_area_plan table area_name) IsKept
tells_add_area table area_name =
    tells_bind _ _ IsKept (tells_table table) (λ f. tells_bind _ _ IsKept (tells_areas mode.S) (λ rows. let area = area_named (with_areas nothing rows) area_name in
    tells_then _ _ IsKept (tells_some_or reply.NoArea area refl) (tells_group members_space f.0 mode.X (spreading f area) IsKept (λ members. tells_spreading f area members))))

-- ---- all

pub tells_plan : (back_ends : ℕ) (st : Statement) → IsTrue (is_planned st) → Tells (plan back_ends st) (IsDue st)
unfolding plan
tells_plan back_ends (statement.CreateArea name node) p = tells_create_area back_ends name node
tells_plan back_ends (statement.CreateTable name columns key area_names) p = tells_create_table name columns key area_names
tells_plan back_ends (statement.AddArea table area) p = tells_add_area table area
tells_plan back_ends (statement.Insert table values) p = tells_insert table values
tells_plan back_ends (statement.Select w table pred) p = tells_select table w pred
tells_plan back_ends (statement.Update table sets pred) p = tells_update table sets pred
tells_plan back_ends (statement.Delete table pred) p = tells_delete table pred
tells_plan back_ends (statement.LockTable table exclusive) p = tells_lock_table table exclusive
tells_plan back_ends statement.Commit p = absurd (false≢true p)
tells_plan back_ends statement.Rollback p = absurd (false≢true p)

-- ---- what that says of a reply

-- what leaves a transaction open doesn't say that it was rolled back
pub open_kept : (r : Reply) → leaves_open r ≡ true → says_undone r ≡ false
open_kept r = elim r as (λ x. leaves_open x ≡ true → says_undone x ≡ false) [
  | reply.RolledBack ↦ λ e. absurd (false≢true e)
  | reply.Down node ↦ λ e. absurd (false≢true e)
  | reply.Stopped node ↦ λ e. absurd (false≢true e)
  | reply.Lost node ↦ λ e. absurd (false≢true e)
  | reply.Deadlock edges ↦ λ e. absurd (false≢true e)
  | reply.NumbersSpent ↦ λ e. absurd (false≢true e)
  | reply.NoMemory ↦ λ e. absurd (false≢true e)
  | reply.RolledBackEnd ↦ λ e. absurd (false≢true e)
  | x ↦ λ e. refl
]

-- the replies that roll back say so
frank_undone : (r : Reply) → IsFrank r → says_undone r ≡ rolls_back r
frank_undone r h = by (rolls_back r) refl (and_parts (if rolls_back r then says_undone r else leaves_open r) (not (is_rows r)) h).0
  where
    by : (b : Bool) → rolls_back r ≡ b → (if b then says_undone r else leaves_open r) ≡ true → says_undone r ≡ rolls_back r
    by true e k = k ∙ sym e
    by false e k = open_kept r k ∙ sym e

either_true : (a b : Bool) → a ≡ true → a || b ≡ true
either_true a b e = ap (λ x. x || b) e

or_true : (a : Bool) → a || true ≡ true
or_true true = refl
or_true false = refl

frank_replies : (r : Reply) → IsFrank r → leaves_open r || says_undone r ≡ true
frank_replies r h = by (rolls_back r) (and_parts (if rolls_back r then says_undone r else leaves_open r) (not (is_rows r)) h).0
  where
    by : (b : Bool) → (if b then says_undone r else leaves_open r) ≡ true → leaves_open r || says_undone r ≡ true
    by true k = ap (λ x. leaves_open r || x) k ∙ or_true (leaves_open r)
    by false k = either_true (leaves_open r) (says_undone r) k

shows_none : {P : Type 0} (b : Bool) → not b ≡ true → b ≡ true → P
shows_none b e h = absurd (false≢true (ap not (sym h) ∙ e))

select_shows : (a b : Bool) → a || not b ≡ true → b ≡ true → a ≡ true
select_shows true b e h = refl
select_shows false b e h = shows_none b e h

-- what a plan comes to
plan_ends : (st : Statement) → IsTrue (is_planned st) → (back_ends : ℕ) (u v : Use) (calls : List Call) (r : Result Reply Reply) → Follows false (plan back_ends st u) calls (r, v) → Ends (IsDue st) (r, v)
plan_ends st planned back_ends u v calls r follows = said false (plan back_ends st u) calls (r, v) follows (Ends (IsDue st)) ((tells_plan back_ends st planned).holds u)

pub plan_tells_undone : (st : Statement) → IsTrue (is_planned st) → PlanTellsUndone st
plan_tells_undone st planned back_ends u v calls r follows = by r (plan_ends st planned back_ends u v calls r follows)
  where
    by : (o : Result Reply Reply) → Ends (IsDue st) (o, v) → says_undone (reply_in o) ≡ is_rolled_back o
    by (Ok x) h = open_kept x (and_parts (leaves_open x) (is_select st || not (is_rows x)) h).0
    by (Err e) h = frank_undone e h

pub plan_replies : (st : Statement) → IsTrue (is_planned st) → PlanReplies st
plan_replies st planned back_ends u v calls r follows = by r (plan_ends st planned back_ends u v calls r follows)
  where
    by : (o : Result Reply Reply) → Ends (IsDue st) (o, v) → IsTrue (leaves_open (reply_in o) || says_undone (reply_in o)) × (IsTrue (is_rows (reply_in o)) → IsTrue (is_select st))
    by (Ok x) h =
        let parts = and_parts (leaves_open x) (is_select st || not (is_rows x)) h in
        (either_true (leaves_open x) (says_undone x) parts.0, λ rows. select_shows (is_select st) (is_rows x) parts.1 rows)
    by (Err e) h =
        let parts = and_parts (if rolls_back e then says_undone e else leaves_open e) (not (is_rows e)) h in (frank_replies e h, λ rows. shows_none (is_rows e) parts.1 rows)
