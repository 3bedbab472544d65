-- The rows that a statement considers are user rows that it was answered.
use Rattle.std.proofs.Common.{◌≡◌, inl, ℕ, zero, suc, ◌≤◌, ℤ, List, [], ◌∷◌, ◌++◌, Option, Some, None, true, refl, subst, arith}
use Rattle.std.specs.Prelude.{flat_map, option_and_then}
use Rattle.std.specs.Option.{option_to_list}
use Rattle.hb_types.specs.declared.answer.Answer.TheVariants as answer
use Rattle.hb_types.specs.declared.change.Stored.{Stored}
use Rattle.hb_types.specs.declared.entry.Entry.{Entry}
use Rattle.hb_types.specs.declared.entry.Entry.TheVariants.{At, Moving}
use Rattle.hb_types.specs.declared.lock.Mode.{Mode}
use Rattle.hb_types.specs.declared.lock.Mode.TheVariants as mode
use Rattle.hb_types.specs.declared.names.Tx.{Tx}
use Rattle.hb_types.specs.declared.places.Path.TheVariants as path
use Rattle.hb_types.specs.declared.places.Space.{Space}
use Rattle.hb_types.specs.declared.request.Request.TheVariants as request
use Rattle.hb_types.specs.declared.value.Value.{Value}
use Rattle.hb_types.specs.declared.value.Value.TheVariants.{Int}
use Rattle.hb_types.specs.Groups.{group_of, route}
use Rattle.hb_types.specs.Lists.{Each, IsIn}
use Rattle.hb_types.specs.Places.{node_of_area, same_space}
use Rattle.hb_types.specs.Rows.{values_in}
use Rattle.hb_types.proofs.Ascending.{Each-append, Each-in, Each-of, Has-back, Has-front, in_Each}
use Rattle.hb_types.proofs.SamePlace.{same_space-eq}
use Rattle.hb_model.specs.declared.reply.Reply.{Reply}
use Rattle.hb_model.specs.declared.reply.Reply.TheVariants as reply
use Rattle.hb_model.specs.declared.statement.Statement.{Statement}
use Rattle.hb_model.specs.declared.table.Table.{Table}
use Rattle.hb_model.specs.Answers.{rows_answered}
use Rattle.hb_model.specs.Asked.{AreUnder}
use Rattle.hb_model.specs.Dictionary.{entry_in, entry_of_areas, size_of}
use Rattle.hb_model.specs.Sources.{IsUsers}
use Rattle.hb_model.specs.Spots.{ds, dictionary_space, entries_space, entry_place, place_in, space_in, tables_space}
use Rattle.hb_model.specs.Told.{Found, entry_of, table_among}
use Rattle.hb_talk.specs.Plans.{areas_of_routes, considered, entry_under, names, scanning, some_or, stored_at, table_of, walking}
use Rattle.hb_talk.specs.Talk.{Use, Planning, ◌>>=◌, ◌>>◌, lock, pure, read, refuse, scan, scan_group}
use Rattle.hb_planlocks.proofs.Course.{Bearing, bearing_bind, bears_lock, bears_read, bears_refuse, bears_scan, bears_scan_group, bears_some_or}
use Rattle.hb_planlocks.proofs.RowLocks.{each_from}
use Rattle.hb_plansources.proofs.Rules.{Refusing, sources}

-- no area of ds
abbrev pub IsOfUsers : ℕ → Type 0
IsOfUsers area = 1 ≤ area

-- a user row among those that were answered
abbrev pub IsGathered : List Stored → Stored → Type 0
IsGathered g r = IsUsers r × IsIn r g

abbrev pub Gathered : List Stored → List Stored → Type 0
Gathered g rows = Each (IsGathered g) rows

gathered_more : (g h rows : List Stored) → Gathered g rows → Gathered (g ++ h) rows
gathered_more g h rows e = Each-of (IsGathered g) (IsGathered (g ++ h)) rows (λ r k. (k.0, Has-front (λ (y : Stored). y ≡ r) g h k.1)) e

-- a row that was read in an area of users
read_gathered : (g : List Stored) (tx : Tx) (area table : ℕ) (key : ℤ) (row : Option (List ℕ)) → IsOfUsers area
    → Gathered (g ++ rows_answered (request.Read tx (place_in area table key)) (answer.Row row)) (stored_at (place_in area table key) row)
read_gathered g tx area table key None users = tt
read_gathered g tx area table key (Some row) users =
    let r : Stored = record { place = place_in area table key; row = row } in ((users, Has-back (λ (y : Stored). y ≡ r) g (r ∷ []) (inl refl)), tt)

-- the rows of a scan of such an area
scan_gathered : (g : List Stored) (area table : ℕ) (rows : List Stored) → IsOfUsers area → AreUnder (path.Whole (space_in area table)) rows → Gathered (g ++ rows) rows
scan_gathered g area table rows users under = Each-in (IsGathered (g ++ rows)) rows (λ r i. (
  subst (λ (s : Space). 1 ≤ s.area) (same_space-eq (space_in area table) r.place.space (in_Each (λ (x : Stored). same_space (space_in area table) x.place.space ≡ true) r rows i under)) users,
  Has-back (λ (y : Stored). y ≡ r) g rows i,
))

-- ---- areas of entries

of_areas : (a b : ℕ) (e : Entry) → entry_of_areas a b ≡ Some e → Each IsOfUsers (route e)
of_areas zero b e is = cc
of_areas (suc a) zero e is =
    let told : Some (At (suc a)) ≡ Some e = is in let same : At (suc a) ≡ e = cc in subst (λ x. Each IsOfUsers (route x)) same (omega arith, tt)
of_areas (suc a) (suc b) e is =
    let told : Some (Moving (suc a) (suc b)) ≡ Some e = is in
    let same : Moving (suc a) (suc b) ≡ e = cc in subst (λ x. Each IsOfUsers (route x)) same (omega arith, (omega arith, tt))

of_values : (values : List Value) (e : Entry) → entry_in values ≡ Some e → Each IsOfUsers (route e)
of_values (Int a ∷ Int b ∷ []) e is = of_areas (size_of a) (size_of b) e is
of_values _ e is = cc

of_row : (o : Option (List Value)) (e : Entry) → option_and_then entry_in o ≡ Some e → Each IsOfUsers (route e)
of_row None e is = cc
of_row (Some values) e is = of_values values e is

-- the areas that a row of an entry tells are none of ds
route_named : (row : Option (List ℕ)) (e : Entry) → entry_of row ≡ Some e → Each IsOfUsers (route e)
route_named row e is = of_row (option_and_then values_in row) e is

route_of_users : (o : Option Entry) → ((e : Entry) → o ≡ Some e → Each IsOfUsers (route e)) → Each IsOfUsers (flat_map route (option_to_list o))
route_of_users None h = tt
route_of_users (Some e) h = Each-append IsOfUsers (route e) [] (h e refl) tt

routes_named : (rows : List Stored) → Each IsOfUsers (flat_map (λ r. flat_map route (option_to_list (entry_of (Some r.row)))) rows)
routes_named [] = tt
routes_named (r ∷ rows) =
    Each-append IsOfUsers (flat_map route (option_to_list (entry_of (Some r.row)))) (flat_map (λ x. flat_map route (option_to_list (entry_of (Some x.row)))) rows)
    (route_of_users (entry_of (Some r.row)) (route_named (Some r.row))) (routes_named rows)

areas_named : (rows : List Stored) → Each IsOfUsers (areas_of_routes rows)
areas_named rows = each_from IsOfUsers (flat_map (λ r. flat_map route (option_to_list (entry_of (Some r.row)))) rows) [] tt (routes_named rows)

-- ---- plans

module _ (st : Statement) where
  abbrev Plan : {A : Type 0} → Planning A → Use → List Stored → (List Stored → A → Type 0) → Type 0
  Plan p u g Q = Bearing (sources st) p u g Q

  pub table_bears : (name : List ℕ) (u : Use) (Q : List Stored → Found → Type 0) → ((g : List Stored) (f : Found) → Q g f) → Plan (table_of name) u [] Q
  table_bears name u Q q =
      let next : List Stored → List Stored → Type 0 = λ h rows. (v : Use) → Plan (some_or reply.NoTable (table_among rows name)) v h Q in
      let sp = dictionary_space tables_space in
      bearing_bind (sources st) names (λ rows. some_or reply.NoTable (table_among rows name)) u [] Q
      (bearing_bind (sources st) (lock ds (path.Whole sp) mode.S) (λ _. scan ds sp) u [] next
      (bears_lock (sources st) ds (path.Whole sp) mode.S u [] (λ h a. (v : Use) → Plan (scan ds sp) v h next) (λ tx. tt)
      (λ v. bears_scan (sources st) ds sp v [] next (λ rows under w. bears_some_or (sources st) reply.NoTable (table_among rows name) w rows Q (λ s. refl) (λ f e. q rows f)))))

  pub entry_bears : (table group : ℕ) (u : Use) (g : List Stored) (Q : List Stored → Option Entry → Type 0)
      → ((h : List Stored) (o : Option Entry) → ((e : Entry) → o ≡ Some e → Each IsOfUsers (route e)) → Q h o) → Plan (entry_under mode.S table group) u g Q
  entry_bears table group u g Q q =
      let place = entry_place table group in
      let reading : Planning (Option Entry) = read ds place >>= (λ row. pure (entry_of row)) in
      bearing_bind (sources st) (lock ds (path.Key place) mode.S) (λ _. reading) u g Q
      (bears_lock (sources st) ds (path.Key place) mode.S u g (λ h x. (v : Use) → Plan reading v h Q) (λ tx. tt)
      (λ v. bearing_bind (sources st) (read ds place) (λ row. pure (entry_of row)) v g Q
      (bears_read (sources st) ds place v g (λ h row. (w : Use) → Plan (pure (entry_of row)) w h Q)
      (λ row w. q (g ++ rows_answered (request.Read (record { 0 = v.tx }) place) (answer.Row row)) (entry_of row) (route_named row)))))

  pub walking_bears : (m : Mode) (table : ℕ) (key : ℤ) (areas : List ℕ) (rows : List Stored) (u : Use) (g : List Stored) (Q : List Stored → List Stored → Type 0) → Each IsOfUsers areas → Gathered g rows
      → ((h rs : List Stored) → Gathered h rs → Q h rs) → Plan (walking m table key areas rows) u g Q
  walking_bears m table key [] rows u g Q all gathered q = q g rows gathered
  walking_bears m table key (a ∷ more) rows u g Q all gathered q =
      let here = place_in a table key in
      let node : ℕ = node_of_area a in
      let reading : Planning (List Stored) = read node here >>= (λ row. walking m table key more (rows ++ stored_at here row)) in
      bearing_bind (sources st) (lock node (path.Key here) m) (λ _. reading) u g Q
      (bears_lock (sources st) node (path.Key here) m u g (λ h x. (v : Use) → Plan reading v h Q) (λ tx. tt)
      (λ v. bearing_bind (sources st) (read node here) (λ row. walking m table key more (rows ++ stored_at here row)) v g Q
      (bears_read (sources st) node here v g (λ h row. (w : Use) → Plan (walking m table key more (rows ++ stored_at here row)) w h Q)
      (λ row w. let extra = rows_answered (request.Read (record { 0 = v.tx }) here) (answer.Row row) in
      walking_bears m table key more (rows ++ stored_at here row) w (g ++ extra) Q all.1
      (Each-append (IsGathered (g ++ extra)) rows (stored_at here row) (gathered_more g extra rows gathered) (read_gathered g (record { 0 = v.tx }) a table key row all.0)) q))))

  scanning_bears : (m : Mode) (table : ℕ) (areas : List ℕ) (rows : List Stored) (u : Use) (g : List Stored) (Q : List Stored → List Stored → Type 0) → Each IsOfUsers areas → Gathered g rows
      → ((h rs : List Stored) → Gathered h rs → Q h rs) → Plan (scanning m table areas rows) u g Q
  scanning_bears m table [] rows u g Q all gathered q = q g rows gathered
  scanning_bears m table (a ∷ more) rows u g Q all gathered q =
      let here = space_in a table in
      let node : ℕ = node_of_area a in
      let reading : Planning (List Stored) = scan node here >>= (λ found. scanning m table more (rows ++ found)) in
      bearing_bind (sources st) (lock node (path.Whole here) m) (λ _. reading) u g Q
      (bears_lock (sources st) node (path.Whole here) m u g (λ h x. (v : Use) → Plan reading v h Q) (λ tx. tt)
      (λ v. bearing_bind (sources st) (scan node here) (λ found. scanning m table more (rows ++ found)) v g Q
      (bears_scan (sources st) node here v g (λ h found. (w : Use) → Plan (scanning m table more (rows ++ found)) w h Q)
      (λ found under w. scanning_bears m table more (rows ++ found) w (g ++ found) Q all.1
      (Each-append (IsGathered (g ++ found)) rows found (gathered_more g found rows gathered) (scan_gathered g a table found all.0 under)) q))))

  pub entries_bear : {A : Type 0} (table : ℕ) (next : List Stored → Planning A) (u : Use) (g : List Stored) (Q : List Stored → A → Type 0)
      → ((h rows : List Stored) → Each IsOfUsers (areas_of_routes rows) → (v : Use) → Plan (next rows) v h Q)
      → Plan (lock ds (path.Group (dictionary_space entries_space) table) mode.S >> (scan_group ds (dictionary_space entries_space) table >>= next)) u g Q
  entries_bear {A} table next u g Q q =
      let sp = dictionary_space entries_space in
      bearing_bind (sources st) (lock ds (path.Group sp table) mode.S) (λ _. scan_group ds sp table >>= next) u g Q
      (bears_lock (sources st) ds (path.Group sp table) mode.S u g (λ h x. (v : Use) → Plan (scan_group ds sp table >>= next) v h Q) (λ tx. tt)
      (λ v. bearing_bind (sources st) (scan_group ds sp table) next v g Q
      (bears_scan_group (sources st) ds sp table v g (λ h rows. (w : Use) → Plan (next rows) w h Q) (λ rows under w. q (g ++ rows) rows (areas_named rows) w))))

  considered_bears : (m : Mode) (f : Found) (o : Option ℤ) (u : Use) (g : List Stored) (Q : List Stored → List Stored → Type 0) → ((h rs : List Stored) → Gathered h rs → Q h rs)
      → Plan (considered m f o) u g Q
  considered_bears m f (Some key) u g Q q =
      bearing_bind (sources st) (entry_under mode.S f.0 (group_of key)) (λ entry. walking m f.0 key (flat_map route (option_to_list entry)) []) u g Q
      (entry_bears f.0 (group_of key) u g (λ h o. (v : Use) → Plan (walking m f.0 key (flat_map route (option_to_list o)) []) v h Q)
      (λ h o told v. walking_bears m f.0 key (flat_map route (option_to_list o)) [] v h Q (route_of_users o told) tt q))
  considered_bears m f None u g Q q =
      entries_bear f.0 (λ entries. scanning m f.0 (areas_of_routes entries) []) u g Q (λ h rows all v. scanning_bears m f.0 (areas_of_routes rows) [] v h Q all tt q)

  -- a plan that goes on with the rows that it considers
  pub rows_bear : {A : Type 0} (m : Mode) (key : Table → Option ℤ) (static : Table → Option Reply) (rest : Table → List Stored → Planning A) (name : List ℕ) (u : Use) (Q : List Stored → A → Type 0)
      → ((t : Table) (r : Reply) → static t ≡ Some r → Refusing st r) → ((t : Table) (rows : List Stored) (v : Use) (h : List Stored) → Gathered h rows → Plan (rest t rows) v h Q)
      → Plan (table_of name >>= (λ f. refuse (static f.1) >> (considered m f (key f.1) >>= rest f.1))) u [] Q
  rows_bear {A} m key static rest name u Q refuses q =
      bearing_bind (sources st) (table_of name) (λ f. refuse (static f.1) >> (considered m f (key f.1) >>= rest f.1)) u [] Q
      (table_bears name u (λ h f. (v : Use) → Plan (refuse (static f.1) >> (considered m f (key f.1) >>= rest f.1)) v h Q)
      (λ g f v. bearing_bind (sources st) (refuse (static f.1)) (λ _. considered m f (key f.1) >>= rest f.1) v g Q
      (bears_refuse (sources st) (static f.1) v g (λ h a. (w : Use) → Plan (considered m f (key f.1) >>= rest f.1) w h Q) (refuses f.1)
      (λ w. bearing_bind (sources st) (considered m f (key f.1)) (rest f.1) w g Q
      (considered_bears m f (key f.1) w g (λ h rows. (x : Use) → Plan (rest f.1 rows) x h Q) (λ h rows gathered x. q f.1 rows x h gathered))))))
