-- What is read is an access, and then a round.
use Rattle.std.proofs.Common.{◌≡◌, ℕ, ℤ, List, [], ◌∷◌, ◌++◌, flat_map, option_map, Option, Some, None, Result, Ok, Err, refl, ap, sym, ◌∙◌}
use Rattle.std.specs.Option.{option_to_list}
use Rattle.hb_types.specs.declared.change.Stored.{Stored}
use Rattle.hb_types.specs.declared.entry.Entry.{Entry}
use Rattle.hb_types.specs.declared.lock.Mode.{Mode}
use Rattle.hb_types.specs.declared.lock.Mode.TheVariants as mode
use Rattle.hb_types.specs.declared.names.NodeName.{NodeName}
use Rattle.hb_types.specs.declared.places.Path.TheVariants as path
use Rattle.hb_types.specs.Groups.{group_of, route}
use Rattle.hb_types.specs.Places.{node_of_area}
use Rattle.hb_model.specs.declared.reply.Reply.TheVariants as reply
use Rattle.hb_model.specs.Spots.{ds, entries_space, dictionary_space, entry_place, space_in}
use Rattle.hb_model.specs.Told.{entry_of}
use Rattle.hb_talk.specs.Talk.{Use, Planning, ◌>>=◌, ◌>>◌, pure, lock, read, scan_group}
use Rattle.hb_talk.specs.Plans.{entry_under, some_or, walking, scanning, locking, areas_of_routes, point_rows, all_rows}
use Rattle.hb_access.specs.declared.goal.Got.{Got}
use Rattle.hb_access.specs.declared.goal.Got.TheVariants as got
use Rattle.hb_access.specs.Accesses.{locked}
use Rattle.hb_access.proofs.Bridges.{goal_of, reads_row, reads_group, locks_only}
use Rattle.hb_access.proofs.Sequences.{plans_assoc, then_same}
use Rattle.hb_round.specs.declared.sweep.Sweep.{Sweep}
use Rattle.hb_round.specs.Laws.{row_of, rows_of, lock_of}
use Rattle.hb_round.specs.Onward.{onward}
use Rattle.hb_round.specs.Sweeps.{gathering, goal_in, came_in}
use Rattle.hb_round.proofs.Along.{walks, scans}
use Rattle.hb_round.proofs.Onwards.{plan_on}
use Rattle.hb_reading.specs.declared.aim.Aim.{Aim}
use Rattle.hb_reading.specs.declared.aim.Aim.TheVariants as aim
use Rattle.hb_reading.specs.declared.reading.Brought.{Brought}
use Rattle.hb_reading.specs.Aims.{reading, first_goal, sweep_of, without_entry, with_entry}
use Rattle.hb_reading.specs.Routes.{routed, inserting, inserted, in_areas}
use Rattle.hb_reading.specs.Readings.{behind_entries, or_refused, rows_along, bringing}

-- one plan in place of another with the same talk
same_first : {A B : Type 0} (p q : Planning A) (F : A → Planning B) (u : Use) → p u ≡ q u → (p >>= F) u ≡ (q >>= F) u
same_first p q F u is = plan_on p F u ∙ ap (onward F) is ∙ sym (plan_on q F u)

-- an entry that is read, and what follows it
under_entry : {B : Type 0} (table group : ℕ) (K : Option Entry → Planning B) (F : Got → Planning B)
    → ((row : Option (List ℕ)) (v : Use) → K (entry_of row) v ≡ F (got.Row row) v) → (u : Use)
    → (entry_under mode.S table group >>= K) u ≡ (locked (goal_of (record { 0 = ds }) (path.Key (entry_place table group)) mode.S) >>= F) u
under_entry table group K F h u =
    plans_assoc (lock ds (path.Key (entry_place table group)) mode.S) (λ _. read ds (entry_place table group) >>= (λ row. pure (entry_of row))) K u
    ∙ then_same (lock ds (path.Key (entry_place table group)) mode.S) (λ _. (read ds (entry_place table group) >>= (λ row. pure (entry_of row))) >>= K)
    (λ _. read ds (entry_place table group) >>= (λ row. K (entry_of row)))
    (λ _ v. plans_assoc (read ds (entry_place table group)) (λ row. pure (entry_of row)) K v) u
    ∙ reads_row (record { 0 = ds }) (entry_place table group) mode.S (λ row. K (entry_of row)) F h u

-- entries that are read, and what follows them
under_entries : {A B : Type 0} (table : ℕ) (S : List Stored → Planning A) (K : A → Planning B) (F : Got → Planning B)
    → ((rows : List Stored) (v : Use) → (S rows >>= K) v ≡ F (got.Rows rows) v) → (u : Use)
    → ((lock ds (path.Group (dictionary_space entries_space) table) mode.S >> (scan_group ds (dictionary_space entries_space) table >>= S)) >>= K) u
    ≡ (locked (goal_of (record { 0 = ds }) (path.Group (dictionary_space entries_space) table) mode.S) >>= F) u
under_entries table S K F h u =
    let p = lock ds (path.Group (dictionary_space entries_space) table) mode.S in
    let q = scan_group ds (dictionary_space entries_space) table in
    plans_assoc p (λ _. q >>= S) K u
    ∙ then_same p (λ _. (q >>= S) >>= K) (λ _. q >>= (λ rows. S rows >>= K)) (λ _ v. plans_assoc q S K v) u
    ∙ reads_group (record { 0 = ds }) (dictionary_space entries_space) table mode.S (λ rows. S rows >>= K) F h u

-- what follows the locks follows a round that brings nothing
locks_none : {B : Type 0} (m : Mode) (table : ℕ) (areas : List ℕ) (k : List Stored → Planning B) (u : Use)
    → (locking m table areas >> k []) u ≡ (gathering (lock_of m table) areas [] >>= k) u
unfolding gathering
locks_none m table [] k u = refl
locks_none m table (area ∷ more) k u =
    let s : Sweep = lock_of m table in
    plans_assoc (lock (node_of_area area) (path.Whole (space_in area table)) m) (λ _. locking m table more) (λ _. k []) u
    ∙ locks_only (record { 0 = node_of_area area }) (path.Whole (space_in area table)) m (locking m table more >> k [])
    (λ g. gathering s more ([] ++ came_in s area g) >>= k) (λ v. locks_none m table more k v) u
    ∙ sym (plans_assoc (locked (goal_in s area)) (λ g. gathering s more ([] ++ came_in s area g)) k u)

-- the rows of a key, in the areas of an entry's route
inserts : (table : ℕ) (key : ℤ) (o : Option Entry) (v : Use)
    → (some_or reply.NoArea o >>= (λ e. walking mode.X table key (route e) [] >>= with_entry e)) v
    ≡ or_refused table (aim.Insert key) (inserting (option_map inserted o)) v
unfolding or_refused rows_along bringing
inserts table key None v = refl
inserts table key (Some e) v =
    same_first (walking mode.X table key (route e) []) (gathering (row_of mode.X table key) (route e) []) (with_entry e) v (walks mode.X table key (route e) [] v)

pub reads : (table : ℕ) (a : Aim) (u : Use) → reading table a u ≡ onward (behind_entries table a) (locked (first_goal table a) u)
unfolding behind_entries or_refused rows_along bringing
reads table (aim.Point m key) u =
    let W : Option Entry → Planning (List Stored) = λ o. walking m table key (flat_map route (option_to_list o)) [] in
    plans_assoc (entry_under mode.S table (group_of key)) W without_entry u
    ∙ under_entry table (group_of key) (λ o. W o >>= without_entry) (behind_entries table (aim.Point m key))
    (λ row v. same_first (W (entry_of row)) (gathering (row_of m table key) (flat_map route (option_to_list (entry_of row))) []) without_entry v
    (walks m table key (flat_map route (option_to_list (entry_of row))) [] v)) u
    ∙ plan_on (locked (first_goal table (aim.Point m key))) (behind_entries table (aim.Point m key)) u
reads table (aim.All m) u =
    under_entries table (λ entries. scanning m table (areas_of_routes entries) []) without_entry (behind_entries table (aim.All m))
    (λ rows v. same_first (scanning m table (areas_of_routes rows) []) (gathering (rows_of m table) (areas_of_routes rows) []) without_entry v
    (scans m table (areas_of_routes rows) [] v)) u
    ∙ plan_on (locked (first_goal table (aim.All m))) (behind_entries table (aim.All m)) u
reads table (aim.Insert key) u =
    under_entry table (group_of key) (λ o. some_or reply.NoArea o >>= (λ e. walking mode.X table key (route e) [] >>= with_entry e))
    (behind_entries table (aim.Insert key)) (λ row v. inserts table key (entry_of row) v) u
    ∙ plan_on (locked (first_goal table (aim.Insert key))) (behind_entries table (aim.Insert key)) u
reads table (aim.Locks m) u =
    reads_group (record { 0 = ds }) (dictionary_space entries_space) table mode.S
    (λ entries. locking m table (areas_of_routes entries) >> without_entry []) (behind_entries table (aim.Locks m))
    (λ rows v. locks_none m table (areas_of_routes rows) without_entry v) u
    ∙ plan_on (locked (first_goal table (aim.Locks m))) (behind_entries table (aim.Locks m)) u
