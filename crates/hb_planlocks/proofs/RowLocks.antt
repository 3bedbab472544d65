-- The plans of statements on a table's rows ask for locks of the table of locks.
use Rattle.std.proofs.Common.{◌≡◌, inl, inr, ℕ, ℤ, pos, List, [], ◌∷◌, ◌++◌, filter, Option, Some, None, Bool, true, refl, subst, sym, ap, ◌∙◌}
use Rattle.std.specs.Prelude.{⊤, MatchOption, ◌==◌, ◌&&◌, if◌then◌else◌, nat_lt, find, fold, filter_map, flat_map}
use Rattle.std.specs.Option.{option_to_list}
use Rattle.std.specs.Ordering.{int_eq}
use Rattle.std.specs.List.{cons_option}
use Rattle.std.specs.Str.{bytes_eq}
use Rattle.std.proofs.lemmas.Bool.{and_parts, and_from}
use Rattle.std.proofs.lemmas.Bool.Decides.{Decides-eqb}
use Rattle.std.proofs.lemmas.List.Elements.{filter_map-append}
use Rattle.std.proofs.lemmas.List.Concat.{flat_map-append}
use Rattle.hb_types.specs.declared.answer.Answer.TheVariants as answer
use Rattle.hb_types.specs.declared.change.Change.{Change}
use Rattle.hb_types.specs.declared.change.Stored.{Stored}
use Rattle.hb_types.specs.declared.names.Tx.{Tx}
use Rattle.hb_types.specs.declared.entry.Entry.{Entry}
use Rattle.hb_types.specs.declared.lock.Mode.{Mode}
use Rattle.hb_types.specs.declared.lock.Mode.TheVariants as mode
use Rattle.hb_types.specs.declared.places.Path.TheVariants as path
use Rattle.hb_types.specs.declared.request.Request.TheVariants as request
use Rattle.hb_types.specs.declared.trail.Call.{Call}
use Rattle.hb_types.specs.declared.value.Value.{Value}
use Rattle.hb_types.specs.Groups.{group_of, route, target}
use Rattle.hb_types.specs.Lists.{Each, IsIn}
use Rattle.hb_types.specs.Places.{node_of_area, same_space}
use Rattle.hb_types.proofs.Ascending.{Each-in, Has-of, in_Each}
use Rattle.hb_types.proofs.PutLaws.{by_test}
use Rattle.hb_types.proofs.SamePlace.{int_eq-refl, same_space-refl}
use Rattle.hb_model.specs.declared.reply.Reply.{Reply}
use Rattle.hb_model.specs.declared.reply.Reply.TheVariants as reply
use Rattle.hb_model.specs.declared.statement.Statement.{Statement}
use Rattle.hb_model.specs.declared.table.Table.{Table}
use Rattle.hb_model.specs.Answers.{given, rows_answered}
use Rattle.hb_model.specs.Locking.{MayLock, RowLock, TableLock, is_entry_of, rows_of_space, table_told}
use Rattle.hb_model.specs.Needs.{Need, at_ds, in_area, on_group, on_space}
use Rattle.hb_model.specs.Refusals.{first_refusal, insert_refusals}
use Rattle.hb_model.specs.Rows.{key_of}
use Rattle.hb_model.specs.Spots.{ds, dictionary_space, entries_space, entry_place, place_in, space_in, tables_space, with_number}
use Rattle.hb_model.specs.Told.{Found, entry_of, found_in, table_among}
use Rattle.hb_talk.specs.Plans.{areas_of_routes, considered, entry_under, insert_plan, lock_plan, locking, lying_rows, names, putting, scanning, some_or, stored_at, table_of, walking, with_lying, writes}
use Rattle.hb_talk.specs.Talk.{Use, Planning, ◌>>=◌, ◌>>◌, lock, pure, read, refuse, scan, scan_group}
use Rattle.hb_model.specs.Asked.{AreUnder}
use Rattle.hb_planlocks.proofs.Bears.{Bearing, bearing_bind, bears_lock, bears_read, bears_refuse, bears_scan, bears_scan_group, bears_some_or, bears_writes}

-- ---- lists

append_left : {A : Type 0} (x : A) (xs ys : List A) → IsIn x xs → IsIn x (xs ++ ys)
append_left x [] ys i = absurd i
append_left x (z ∷ xs) ys (inl e) = inl e
append_left x (z ∷ xs) ys (inr i) = inr (append_left x xs ys i)

append_right : {A : Type 0} (x : A) (xs ys : List A) → IsIn x ys → IsIn x (xs ++ ys)
append_right x [] ys i = i
append_right x (z ∷ xs) ys i = inr (append_right x xs ys i)

append_none : {A : Type 0} (xs : List A) → xs ++ [] ≡ xs
append_none [] = refl
append_none (x ∷ xs) = ap (λ ys. x ∷ ys) (append_none xs)

pub filter-more : {A : Type 0} (p : A → Bool) (xs ys : List A) → filter p (xs ++ ys) ≡ filter p xs ++ filter p ys
filter-more p [] ys = refl
filter-more p (x ∷ xs) ys = by_test (p x) (λ t. rw t (ap (λ zs. x ∷ zs) (filter-more p xs ys))) (λ f. rw f (filter-more p xs ys))

pub all_kept : {A : Type 0} (p : A → Bool) (xs : List A) → Each (λ x. p x ≡ true) xs → filter p xs ≡ xs
all_kept p [] e = refl
all_kept p (x ∷ xs) e = rw e.0 (ap (λ ys. x ∷ ys) (all_kept p xs e.1))

find_first : {A : Type 0} (p : A → Bool) (xs ys : List A) (x : A) → find p xs ≡ Some x → find p (xs ++ ys) ≡ Some x
find_first p [] ys x h = cc
find_first p (z ∷ xs) ys x h = by_test (p z) (λ t. rw t (rw t at h)) (λ f. rw f (find_first p xs ys x (rw f at h)))

-- ---- numbers in order

each_with : (P : ℕ → Type 0) (n : ℕ) (ms : List ℕ) → P n → Each P ms → Each P (with_number n ms)
each_with P n [] h e = (h, tt)
each_with P n (m ∷ ms) h e =
    by_test (nat_lt n m) (λ t. rw t (h, e)) (λ f. by_test (n == m) (λ t. rw (f, t) e) (λ g. rw (f, g) (e.0, each_with P n ms h e.1)))

pub each_from : (P : ℕ → Type 0) (xs done : List ℕ) → Each P done → Each P xs → Each P (fold (λ ns n. with_number n ns) done xs)
each_from P [] done d e = d
each_from P (x ∷ xs) done d e = each_from P xs (with_number x done) (each_with P x done e.0 d) e.1

-- ---- what rows tell

abbrev pub named_by : List Stored → List ℕ → Option Found
named_by g name = table_among (rows_of_space tables_space g) name

abbrev entry_row : Stored → Option Entry
entry_row r = entry_of (Some r.row)

abbrev is_group : ℕ → ℕ → Stored → Bool
is_group table group r = is_entry_of table r && int_eq r.place.key (pos group)

-- the areas told by the rows that pass a test
abbrev areas_by : (Stored → Bool) → List Stored → List ℕ
areas_by test g = flat_map route (filter_map entry_row (filter test g))

pub named_first : (rows : List Stored) (name : List ℕ) → AreUnder (path.Whole (dictionary_space tables_space)) rows → named_by rows name ≡ table_among rows name
named_first rows name under = ap (λ rs. table_among rs name) (all_kept (λ (r : Stored). same_space (dictionary_space tables_space) r.place.space) rows under)

pub named_more : (g h : List Stored) (name : List ℕ) (f : Found) → named_by g name ≡ Some f → named_by (g ++ h) name ≡ Some f
named_more g h name f e =
    let here : List Stored = rows_of_space tables_space g in
    let more : List Stored = rows_of_space tables_space h in
    ap (λ rs. table_among rs name) (filter-more (λ (r : Stored). same_space (dictionary_space tables_space) r.place.space) g h)
    ∙ ap (find (λ (x : Found). bytes_eq x.1.name name)) (filter_map-append found_in here more)
    ∙ find_first (λ (x : Found). bytes_eq x.1.name name) (filter_map found_in here) (filter_map found_in more) f e

areas_more : (test : Stored → Bool) (g h : List Stored) (a : ℕ) → IsIn a (areas_by test g) → IsIn a (areas_by test (g ++ h))
areas_more test g h a i =
    subst (IsIn a)
    (sym (ap (λ rs. flat_map route (filter_map entry_row rs)) (filter-more test g h) ∙ ap (flat_map route) (filter_map-append entry_row (filter test g) (filter test h))
    ∙ flat_map-append route (filter_map entry_row (filter test g)) (filter_map entry_row (filter test h))))
    (append_left a (areas_by test g) (areas_by test h) i)

areas_behind : (test : Stored → Bool) (g h : List Stored) (a : ℕ) → IsIn a (areas_by test h) → IsIn a (areas_by test (g ++ h))
areas_behind test g h a i =
    subst (IsIn a)
    (sym (ap (λ rs. flat_map route (filter_map entry_row rs)) (filter-more test g h) ∙ ap (flat_map route) (filter_map-append entry_row (filter test g) (filter test h))
    ∙ flat_map-append route (filter_map entry_row (filter test g)) (filter_map entry_row (filter test h))))
    (append_right a (areas_by test g) (areas_by test h) i)

module _ (st : Statement) (m : Mode) (name : List ℕ) (key : Table → Option ℤ) (is : (before : List Call) (n : Need) → TableLock m before name key n → MayLock st before n) where
  -- by calls that gave these rows
  abbrev May : List Stored → Need → Type 0
  May g n = (before : List Call) → given before ≡ g → MayLock st before n

  names_may : (g : List Stored) → May g (on_space tables_space mode.S)
  names_may g before e = is before (on_space tables_space mode.S) (inl refl)

  row_may : (g : List Stored) (f : Found) (n : Need) → named_by g name ≡ Some f → ((before : List Call) → given before ≡ g → RowLock m before f.0 (key f.1) n) → May g n
  row_may g f n known h before e =
      let told : table_told before name ≡ Some f = ap (λ x. named_by x name) e ∙ known in
      is before n (inr (subst (λ o. MatchOption o ⊥ (λ (x : Found). RowLock m before x.0 (key x.1) n)) (sym told) (h before e)))

  table_bears : (u : Use) (Q : List Stored → Found → Type 0) → ((g : List Stored) (f : Found) → named_by g name ≡ Some f → Q g f) → Bearing May (table_of name) u [] Q
  table_bears u Q q =
      let next : List Stored → List Stored → Type 0 = λ h rows. (v : Use) → Bearing May (some_or reply.NoTable (table_among rows name)) v h Q in
      let sp = dictionary_space tables_space in
      bearing_bind May names (λ rows. some_or reply.NoTable (table_among rows name)) u [] Q
      (bearing_bind May (lock ds (path.Whole sp) mode.S) (λ _. scan ds sp) u [] next
      (bears_lock May ds (path.Whole sp) mode.S u [] (λ h a. (v : Use) → Bearing May (scan ds sp) v h next) (names_may [])
      (λ v. bears_scan May ds sp v [] next (λ rows under w. bears_some_or May reply.NoTable (table_among rows name) w rows Q (λ f e. q rows f (named_first rows name under ∙ e))))))

  -- ---- one key

  module _ (f : Found) (k : ℤ) (keyed : key f.1 ≡ Some k) where
    abbrev of_group : Stored → Bool
    of_group = is_group f.0 (group_of k)

    entry_may : (g : List Stored) → named_by g name ≡ Some f → May g (at_ds (path.Key (entry_place f.0 (group_of k))) mode.S)
    entry_may g known = row_may g f _ known (λ before e. subst (λ o. RowLock m before f.0 o (at_ds (path.Key (entry_place f.0 (group_of k))) mode.S)) (sym keyed) (inl refl))

    area_may : (g : List Stored) (a : ℕ) → named_by g name ≡ Some f → IsIn a (areas_by of_group g) → May g (in_area a (path.Key (place_in a f.0 k)) m)
    area_may g a known i =
        row_may g f _ known (λ before e. subst (λ o. RowLock m before f.0 o (in_area a (path.Key (place_in a f.0 k)) m)) (sym keyed)
        (inr (Has-of (λ (b : ℕ). b ≡ a) (λ b. in_area a (path.Key (place_in a f.0 k)) m ≡ in_area b (path.Key (place_in b f.0 k)) m) (areas_by of_group (given before))
        (λ b h. ap (λ x. in_area x (path.Key (place_in x f.0 k)) m) (sym h)) (subst (λ x. IsIn a (areas_by of_group x)) (sym e) i))))

    -- what a read of the entry tells
    entry_known : (g : List Stored) (tx : Tx) (row : Option (List ℕ)) (a : ℕ) → IsIn a (flat_map route (option_to_list (entry_of row)))
        → IsIn a (areas_by of_group (g ++ rows_answered (request.Read tx (entry_place f.0 (group_of k))) (answer.Row row)))
    entry_known g tx None a i = absurd i
    entry_known g tx (Some bytes) a i =
        let r : Stored = record { place = entry_place f.0 (group_of k); row = bytes } in
        let passes : of_group r ≡ true =
        and_from (is_entry_of f.0 r) (int_eq r.place.key (pos (group_of k)))
        (and_from (same_space (dictionary_space entries_space) r.place.space) (r.place.group == f.0) (same_space-refl (dictionary_space entries_space)) ((Decides-eqb f.0 f.0).1 refl)) (int_eq-refl (pos (group_of k))) in
        let told : filter_map entry_row (filter of_group (r ∷ [])) ≡ option_to_list (entry_of (Some bytes)) = ap (filter_map entry_row) (all_kept of_group (r ∷ []) (passes, tt)) ∙ one (entry_of (Some bytes)) in
        areas_behind of_group g (r ∷ []) a (subst (λ es. IsIn a (flat_map route es)) (sym told) i)
      where
        one : (o : Option Entry) → filter_map (λ (x : Option Entry). x) (o ∷ []) ≡ option_to_list o
        one None = refl
        one (Some e) = refl

    walking_bears : (areas : List ℕ) (rows : List Stored) (u : Use) (g : List Stored) (Q : List Stored → List Stored → Type 0) → named_by g name ≡ Some f
        → ((a : ℕ) → IsIn a areas → IsIn a (areas_by of_group g)) → ((h : List Stored) (rs : List Stored) → Q h rs) → Bearing May (walking m f.0 k areas rows) u g Q
    walking_bears [] rows u g Q known all q = q g rows
    walking_bears (a ∷ more) rows u g Q known all q =
        let here = place_in a f.0 k in
        let node : ℕ = node_of_area a in
        let reading : Planning (List Stored) = read node here >>= (λ row. walking m f.0 k more (rows ++ stored_at here row)) in
        bearing_bind May (lock node (path.Key here) m) (λ _. reading) u g Q
        (bears_lock May node (path.Key here) m u g (λ h x. (v : Use) → Bearing May reading v h Q) (area_may g a known (all a (inl refl)))
        (λ v. bearing_bind May (read node here) (λ row. walking m f.0 k more (rows ++ stored_at here row)) v g Q
        (bears_read May node here v g (λ h row. (w : Use) → Bearing May (walking m f.0 k more (rows ++ stored_at here row)) w h Q)
        (λ row w. let extra = rows_answered (request.Read (record { 0 = v.tx }) here) (answer.Row row) in
        walking_bears more (rows ++ stored_at here row) w (g ++ extra) Q (named_more g extra name f known) (λ b i. areas_more of_group g extra b (all b (inr i))) q))))

    entry_bears : (u : Use) (g : List Stored) (Q : List Stored → Option Entry → Type 0) → named_by g name ≡ Some f
        → ((h : List Stored) (o : Option Entry) → named_by h name ≡ Some f → ((a : ℕ) → IsIn a (flat_map route (option_to_list o)) → IsIn a (areas_by of_group h)) → Q h o)
        → Bearing May (entry_under mode.S f.0 (group_of k)) u g Q
    entry_bears u g Q known q =
        let place = entry_place f.0 (group_of k) in
        let reading : Planning (Option Entry) = read ds place >>= (λ row. pure (entry_of row)) in
        bearing_bind May (lock ds (path.Key place) mode.S) (λ _. reading) u g Q
        (bears_lock May ds (path.Key place) mode.S u g (λ h x. (v : Use) → Bearing May reading v h Q) (entry_may g known)
        (λ v. bearing_bind May (read ds place) (λ row. pure (entry_of row)) v g Q
        (bears_read May ds place v g (λ h row. (w : Use) → Bearing May (pure (entry_of row)) w h Q)
        (λ row w. q (g ++ rows_answered (request.Read (record { 0 = v.tx }) place) (answer.Row row)) (entry_of row) (named_more g _ name f known) (λ a i. entry_known g (record { 0 = v.tx }) row a i)))))

  -- ---- all rows

  module _ (f : Found) (keyless : key f.1 ≡ None) where
    abbrev of_table : Stored → Bool
    of_table = is_entry_of f.0

    entries_may : (g : List Stored) → named_by g name ≡ Some f → May g (on_group entries_space f.0 mode.S)
    entries_may g known = row_may g f _ known (λ before e. subst (λ o. RowLock m before f.0 o (on_group entries_space f.0 mode.S)) (sym keyless) (inl refl))

    whole_may : (g : List Stored) (a : ℕ) → named_by g name ≡ Some f → IsIn a (areas_by of_table g) → May g (in_area a (path.Whole (space_in a f.0)) m)
    whole_may g a known i =
        row_may g f _ known (λ before e. subst (λ o. RowLock m before f.0 o (in_area a (path.Whole (space_in a f.0)) m)) (sym keyless)
        (inr (Has-of (λ (b : ℕ). b ≡ a) (λ b. in_area a (path.Whole (space_in a f.0)) m ≡ in_area b (path.Whole (space_in b f.0)) m) (areas_by of_table (given before))
        (λ b h. ap (λ x. in_area x (path.Whole (space_in x f.0)) m) (sym h)) (subst (λ x. IsIn a (areas_by of_table x)) (sym e) i))))

    turned : (rows : List Stored) → AreUnder (path.Group (dictionary_space entries_space) f.0) rows → Each (λ r. of_table r ≡ true) rows
    turned [] e = tt
    turned (r ∷ rows) e =
        let b = and_parts (same_space (dictionary_space entries_space) r.place.space) (f.0 == r.place.group) e.0 in
        (and_from (same_space (dictionary_space entries_space) r.place.space) (r.place.group == f.0) b.0 ((Decides-eqb r.place.group f.0).1 (sym ((Decides-eqb f.0 r.place.group).0 b.1))), turned rows e.1)

    one_by_one : (rows : List Stored) → flat_map (λ r. flat_map route (option_to_list (entry_row r))) rows ≡ flat_map route (filter_map entry_row rows)
    one_by_one [] = refl
    one_by_one (r ∷ rows) = step (entry_row r) (flat_map (λ r. flat_map route (option_to_list (entry_row r))) rows) (filter_map entry_row rows) (one_by_one rows)
      where
        step : (o : Option Entry) (areas : List ℕ) (es : List Entry) → areas ≡ flat_map route es → flat_map route (option_to_list o) ++ areas ≡ flat_map route (cons_option o es)
        step None areas es e = e
        step (Some x) areas es e = ap (λ zs. zs ++ areas) (append_none (route x)) ∙ ap (λ zs. route x ++ zs) e

    routes_known : (g rows : List Stored) → AreUnder (path.Group (dictionary_space entries_space) f.0) rows → Each (λ a. IsIn a (areas_by of_table (g ++ rows))) (areas_of_routes rows)
    routes_known g rows under =
        let told : areas_by of_table rows ≡ flat_map (λ r. flat_map route (option_to_list (entry_row r))) rows =
        ap (λ rs. flat_map route (filter_map entry_row rs)) (all_kept of_table rows (turned rows under)) ∙ sym (one_by_one rows) in
        each_from (λ a. IsIn a (areas_by of_table (g ++ rows))) (flat_map (λ r. flat_map route (option_to_list (entry_row r))) rows) [] tt
        (Each-in (λ a. IsIn a (areas_by of_table (g ++ rows))) (flat_map (λ r. flat_map route (option_to_list (entry_row r))) rows)
        (λ a i. areas_behind of_table g rows a (subst (IsIn a) (sym told) i)))

    scanning_bears : (areas : List ℕ) (rows : List Stored) (u : Use) (g : List Stored) (Q : List Stored → List Stored → Type 0) → named_by g name ≡ Some f
        → Each (λ a. IsIn a (areas_by of_table g)) areas → ((h : List Stored) (rs : List Stored) → Q h rs) → Bearing May (scanning m f.0 areas rows) u g Q
    scanning_bears [] rows u g Q known all q = q g rows
    scanning_bears (a ∷ more) rows u g Q known all q =
        let here = space_in a f.0 in
        let node : ℕ = node_of_area a in
        let reading : Planning (List Stored) = scan node here >>= (λ found. scanning m f.0 more (rows ++ found)) in
        bearing_bind May (lock node (path.Whole here) m) (λ _. reading) u g Q
        (bears_lock May node (path.Whole here) m u g (λ h x. (v : Use) → Bearing May reading v h Q) (whole_may g a known all.0)
        (λ v. bearing_bind May (scan node here) (λ found. scanning m f.0 more (rows ++ found)) v g Q
        (bears_scan May node here v g (λ h found. (w : Use) → Bearing May (scanning m f.0 more (rows ++ found)) w h Q)
        (λ found under w. scanning_bears more (rows ++ found) w (g ++ found) Q (named_more g found name f known)
        (Each-in (λ b. IsIn b (areas_by of_table (g ++ found))) more (λ b i. areas_more of_table g found b (in_Each (λ c. IsIn c (areas_by of_table g)) b more i all.1))) q))))

    locking_bears : (areas : List ℕ) (u : Use) (g : List Stored) (Q : List Stored → Unit {0} → Type 0) → named_by g name ≡ Some f
        → Each (λ a. IsIn a (areas_by of_table g)) areas → Q g tt → Bearing May (locking m f.0 areas) u g Q
    locking_bears [] u g Q known all q = q
    locking_bears (a ∷ more) u g Q known all q =
        bearing_bind May (lock (node_of_area a) (path.Whole (space_in a f.0)) m) (λ _. locking m f.0 more) u g Q
        (bears_lock May (node_of_area a) (path.Whole (space_in a f.0)) m u g (λ h x. (v : Use) → Bearing May (locking m f.0 more) v h Q) (whole_may g a known all.0)
        (λ v. locking_bears more v g Q known all.1 q))

    entries_bear : {A : Type 0} (next : List Stored → Planning A) (u : Use) (g : List Stored) (Q : List Stored → A → Type 0) → named_by g name ≡ Some f
        → ((h rows : List Stored) → named_by h name ≡ Some f → Each (λ a. IsIn a (areas_by of_table h)) (areas_of_routes rows) → (v : Use) → Bearing May (next rows) v h Q)
        → Bearing May (lock ds (path.Group (dictionary_space entries_space) f.0) mode.S >> (scan_group ds (dictionary_space entries_space) f.0 >>= next)) u g Q
    entries_bear {A} next u g Q known q =
        let sp = dictionary_space entries_space in
        bearing_bind May (lock ds (path.Group sp f.0) mode.S) (λ _. scan_group ds sp f.0 >>= next) u g Q
        (bears_lock May ds (path.Group sp f.0) mode.S u g (λ h x. (v : Use) → Bearing May (scan_group ds sp f.0 >>= next) v h Q) (entries_may g known)
        (λ v. bearing_bind May (scan_group ds sp f.0) next v g Q
        (bears_scan_group May ds sp f.0 v g (λ h rows. (w : Use) → Bearing May (next rows) w h Q)
        (λ rows under w. q (g ++ rows) rows (named_more g rows name f known) (routes_known g rows under) w))))

  considered_bears : (f : Found) (o : Option ℤ) (u : Use) (g : List Stored) (Q : List Stored → List Stored → Type 0) → key f.1 ≡ o → named_by g name ≡ Some f
      → ((h : List Stored) (rs : List Stored) → Q h rs) → Bearing May (considered m f o) u g Q
  considered_bears f (Some k) u g Q e known q =
      bearing_bind May (entry_under mode.S f.0 (group_of k)) (λ entry. walking m f.0 k (flat_map route (option_to_list entry)) []) u g Q
      (entry_bears f k e u g (λ h o. (v : Use) → Bearing May (walking m f.0 k (flat_map route (option_to_list o)) []) v h Q) known
      (λ h o still all v. walking_bears f k e (flat_map route (option_to_list o)) [] v h Q still all q))
  considered_bears f None u g Q e known q =
      entries_bear f e (λ entries. scanning m f.0 (areas_of_routes entries) []) u g Q known (λ h rows still all v. scanning_bears f e (areas_of_routes rows) [] v h Q still all q)

  -- a plan that asks for no lock behind the rows that it considers
  pub rows_bear : {A : Type 0} (static : Table → Option Reply) (rest : Table → List Stored → Planning A) (u : Use) (Q : List Stored → A → Type 0)
      → ((t : Table) (rows : List Stored) (v : Use) (h : List Stored) → Bearing May (rest t rows) v h Q)
      → Bearing May (table_of name >>= (λ f. refuse (static f.1) >> (considered m f (key f.1) >>= rest f.1))) u [] Q
  rows_bear {A} static rest u Q q =
      bearing_bind May (table_of name) (λ f. refuse (static f.1) >> (considered m f (key f.1) >>= rest f.1)) u [] Q
      (table_bears u (λ h f. (v : Use) → Bearing May (refuse (static f.1) >> (considered m f (key f.1) >>= rest f.1)) v h Q)
      (λ g f known v. bearing_bind May (refuse (static f.1)) (λ _. considered m f (key f.1) >>= rest f.1) v g Q
      (bears_refuse May (static f.1) v g (λ h a. (w : Use) → Bearing May (considered m f (key f.1) >>= rest f.1) w h Q)
      (λ w. bearing_bind May (considered m f (key f.1)) (rest f.1) w g Q
      (considered_bears f (key f.1) w g (λ h rows. (x : Use) → Bearing May (rest f.1 rows) x h Q) refl known (λ h rows x. q f.1 rows x h))))))

  -- behind the rows: a refusal, Writes, a reply
  abbrev Any : List Stored → Reply → Type 0
  Any g r = ⊤

  pub replies_bear : (o : Option Reply) (r : Reply) (v : Use) (h : List Stored) → Bearing May (refuse o >> pure r) v h Any
  replies_bear o r v h = bearing_bind May (refuse o) (λ _. pure r) v h Any (bears_refuse May o v h (λ k a. (w : Use) → Bearing May (pure r) w k Any) (λ w. tt))

  pub writes_bear : (o : Option Reply) (cs : List Change) (r : Reply) (v : Use) (h : List Stored) → Bearing May (refuse o >> (writes cs >> pure r)) v h Any
  writes_bear o cs r v h =
      bearing_bind May (refuse o) (λ _. writes cs >> pure r) v h Any
      (bears_refuse May o v h (λ k a. (w : Use) → Bearing May (writes cs >> pure r) w k Any)
      (λ w. bearing_bind May (writes cs) (λ _. pure r) w h Any (bears_writes May cs w h (λ k a. (x : Use) → Bearing May (pure r) x k Any) (λ x. tt))))

  pub insert_bears : (values : List Value) (u : Use) → ((t : Table) → key t ≡ Some (key_of t values)) → m ≡ mode.X → Bearing May (insert_plan name values) u [] Any
  insert_bears values u keyed exclusive =
      let answering : Found → Entry → List Stored → Planning Reply = λ f e rows.
      refuse (first_refusal (insert_refusals (with_lying f.1 (lying_rows rows)) values)) >> (writes (putting (place_in (target e) f.0 (key_of f.1 values)) values ∷ []) >> pure reply.Inserted) in
      let routed : Found → Entry → Planning Reply = λ f e. walking mode.X f.0 (key_of f.1 values) (route e) [] >>= answering f e in
      let entered : Found → Option Entry → Planning Reply = λ f o. some_or reply.NoArea o >>= routed f in
      let named : Found → Planning Reply = λ f. refuse (first_refusal (insert_refusals f.1 values)) >> (entry_under mode.S f.0 (group_of (key_of f.1 values)) >>= entered f) in
      bearing_bind May (table_of name) named u [] Any
      (table_bears u (λ h f. (v : Use) → Bearing May (named f) v h Any)
      (λ g f known v. bearing_bind May (refuse (first_refusal (insert_refusals f.1 values))) (λ _. entry_under mode.S f.0 (group_of (key_of f.1 values)) >>= entered f) v g Any
      (bears_refuse May (first_refusal (insert_refusals f.1 values)) v g (λ h a. (w : Use) → Bearing May (entry_under mode.S f.0 (group_of (key_of f.1 values)) >>= entered f) w h Any)
      (λ w. bearing_bind May (entry_under mode.S f.0 (group_of (key_of f.1 values))) (entered f) w g Any
      (entry_bears f (key_of f.1 values) (keyed f.1) w g (λ h o. (x : Use) → Bearing May (entered f o) x h Any) known
      (λ h o still all x. bearing_bind May (some_or reply.NoArea o) (routed f) x h Any
      (bears_some_or May reply.NoArea o x h (λ k e. (y : Use) → Bearing May (routed f e) y k Any)
      (λ e there y. bearing_bind May (walking mode.X f.0 (key_of f.1 values) (route e) []) (answering f e) y h Any
      (subst (λ mo. Bearing May (walking mo f.0 (key_of f.1 values) (route e) []) y h (λ k rows. (z : Use) → Bearing May (answering f e rows) z k Any)) exclusive
      (walking_bears f (key_of f.1 values) (keyed f.1) (route e) [] y h (λ k rows. (z : Use) → Bearing May (answering f e rows) z k Any) still
      (λ a i. all a (subst (λ q. IsIn a (flat_map route (option_to_list q))) (sym there) (append_left a (route e) [] i)))
      (λ k rows z. writes_bear (first_refusal (insert_refusals (with_lying f.1 (lying_rows rows)) values)) (putting (place_in (target e) f.0 (key_of f.1 values)) values ∷ []) reply.Inserted z k)))))))))))

  pub lock_bears_all : (exclusive : Bool) (u : Use) → ((t : Table) → key t ≡ None) → m ≡ (if exclusive then mode.X else mode.S) → Bearing May (lock_plan name exclusive) u [] Any
  lock_bears_all exclusive u keyless same =
      let mo : Mode = if exclusive then mode.X else mode.S in
      let sp = dictionary_space entries_space in
      let locked : Found → List Stored → Planning Reply = λ f entries. locking mo f.0 (areas_of_routes entries) >> pure reply.Locked in
      let named : Found → Planning Reply = λ f. lock ds (path.Group sp f.0) mode.S >> (scan_group ds sp f.0 >>= locked f) in
      bearing_bind May (table_of name) named u [] Any
      (table_bears u (λ h f. (v : Use) → Bearing May (named f) v h Any)
      (λ g f known v. entries_bear f (keyless f.1) (locked f) v g Any known
      (λ h rows still all w. bearing_bind May (locking mo f.0 (areas_of_routes rows)) (λ _. pure reply.Locked) w h Any
      (subst (λ x. Bearing May (locking x f.0 (areas_of_routes rows)) w h (λ k a. (z : Use) → Bearing May (pure reply.Locked) z k Any)) same
      (locking_bears f (keyless f.1) (areas_of_routes rows) w h (λ k a. (z : Use) → Bearing May (pure reply.Locked) z k Any) still all (λ z. tt))))))
