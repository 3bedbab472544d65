-- What the plan of ADD RDAREA comes to.
use Rattle.std.proofs.Common.{◌≡◌, ℕ, ◌+◌, ◌≤◌, ◌<◌, List, [], ◌∷◌, length, map, filter, Option, Some, None, Err, Bool, true, false, refl, subst, sym, ap, ◌∙◌, arith}
use Rattle.std.specs.Prelude.{◌==◌, filter_map, find, is_none, nat_le, option_map, sum_by, unwrap_or}
use Rattle.std.specs.List.{list_any}
use Rattle.std.specs.Str.{bytes_eq}
use Rattle.std.proofs.lemmas.Bool.{false≢true}
use Rattle.std.proofs.lemmas.Bool.Decides.{nat_tests}
use Rattle.std.proofs.lemmas.Slice.Eq.{bytes_eq-Decides}
use Rattle.hb_types.specs.declared.change.Change.{Change}
use Rattle.hb_types.specs.declared.change.Stored.{Stored}
use Rattle.hb_types.specs.declared.entry.Entry.{Entry}
use Rattle.hb_types.specs.declared.lock.Mode.TheVariants as mode
use Rattle.hb_types.specs.declared.places.Space.{Space}
use Rattle.hb_types.specs.Groups.{is_moving, reassign}
use Rattle.hb_types.specs.Lists.{Each, Has, IsIn}
use Rattle.hb_types.proofs.Ascending.{Has-of, in_Each}
use Rattle.hb_model.specs.declared.reply.Reply.{Reply}
use Rattle.hb_model.specs.declared.reply.Reply.TheVariants as reply
use Rattle.hb_model.specs.declared.statement.Statement.{Statement}
use Rattle.hb_model.specs.declared.statement.Statement.TheVariants as statement
use Rattle.hb_model.specs.declared.table.Table.{Table}
use Rattle.hb_model.specs.Define.{add_area, changed_entries}
use Rattle.hb_model.specs.Dictionary.{at_place, entry_row, member_row}
use Rattle.hb_model.specs.Does.{added_in, effect}
use Rattle.hb_model.specs.Families.{Family}
use Rattle.hb_model.specs.Needs.{locks_of, most_locks, no_rows}
use Rattle.hb_model.specs.Refusals.{Effect, change_size, first_refusal, unless}
use Rattle.hb_model.specs.Spots.{areas_space, dictionary_space, ds, entries_space, members_space}
use Rattle.hb_model.specs.State.{State, Area, Spread, area_named, spread_named, table_named}
use Rattle.hb_model.specs.System.{Sys}
use Rattle.hb_model.specs.Told.{Found}
use Rattle.hb_model.specs.Valid.{IsSpread}
use Rattle.hb_talk.specs.Plans.{sizes, some_or, table_of, writes}
use Rattle.hb_talk.specs.PlansDefine.{area_of, areas, entries_of, lock_group, member_of, number_of, plan, put_row}
use Rattle.hb_talk.specs.Talk.{Use, Planning, ◌>>=◌, ◌>>◌, lock, pure, refuse, scan, scan_group}
use Rattle.hb_plancalc.specs.Counted.{IsWithin}
use Rattle.hb_planlaws.specs.Planned.{PlanDoes, PlanDoesWhere, most_back_ends}
use Rattle.hb_plancalc.proofs.Comes.{Stand, Comes, Plans, plans_bind}
use Rattle.hb_plancalc.proofs.Steps.{Goes, granted, lock_comes, scan_comes, scan_group_comes}
use Rattle.hb_planlaws.proofs.Ends.{at, is_too_much, start}
use Rattle.hb_planlaws.proofs.LockPlan.{no_table_comes, table_comes}
use Rattle.hb_planlaws.proofs.Named.{find_holds, spread_there}
use Rattle.hb_planlaws.proofs.Told.{no_table_told, table_told}
use Rattle.hb_planwrites.proofs.Closing.{Closed, marked_does_where, written}
use Rattle.hb_planwrites.proofs.Marks.{Marked, Settled, forget_last, forget_marking, last, marking, marking_comes, unmarked}
use Rattle.hb_planwrites.proofs.Tabled.{refused_at, too_many}
use Rattle.hb_planareas.proofs.AreaRows.{areas_path, areas_told}
use Rattle.hb_plantables.proofs.Puts.{each_numbered, put_written, size_first}
use Rattle.hb_plantables.proofs.WritesEnd.{writes_end}
use Rattle.hb_planadds.proofs.ChangedRows.{filtered_each, moved_size, rows_from, tells_moving}
use Rattle.hb_planadds.proofs.Members.{entries_path, entries_told, members_path, members_told}
use Rattle.hb_planadds.proofs.WidenedSystem.{all_sited, entries_put, rows_put, sys_after}

-- ---- refusals

abbrev two : Bool → Bool → Option Reply
two a b = first_refusal ((a, reply.NoArea) ∷ (b, reply.AreaThere) ∷ [])

abbrev four : Bool → Bool → Bool → Bool → Option Reply
four a b c d = first_refusal ((a, reply.NoArea) ∷ (b, reply.AreaThere) ∷ (c, reply.Rebalancing) ∷ (d, reply.TooMany) ∷ [])

two_first : (a b c d : Bool) (r : Reply) → two a b ≡ Some r → four a b c d ≡ Some r
two_first true b c d r h = h
two_first false true c d r h = h
two_first false false c d r h = cc

four_other : (a b c d : Bool) (r : Reply) → four a b c d ≡ Some r → is_too_much r ≡ false
four_other true b c d r h = let same : reply.NoArea ≡ r = cc in subst (λ x. is_too_much x ≡ false) same refl
four_other false true c d r h = let same : reply.AreaThere ≡ r = cc in subst (λ x. is_too_much x ≡ false) same refl
four_other false false true d r h = let same : reply.Rebalancing ≡ r = cc in subst (λ x. is_too_much x ≡ false) same refl
four_other false false false true r h = let same : reply.TooMany ≡ r = cc in subst (λ x. is_too_much x ≡ false) same refl
four_other false false false false r h = cc

four_none : (a b c d : Bool) → four a b c d ≡ None → (a ≡ false) × (b ≡ false) × (c ≡ false) × (d ≡ false)
four_none true b c d h = cc
four_none false true c d h = cc
four_none false false true d h = cc
four_none false false false true h = cc
four_none false false false false h = (refl, refl, refl, refl)

below : (n m : ℕ) → nat_le n m ≡ false → m < n
below n m f = grind (arith, nat_tests)

each_put : (P : Change → Type 0) (rows : List Stored) → Each (λ r. P (put_row r)) rows → Each P (map put_row rows)
each_put P [] e = tt
each_put P (r ∷ rows) e = (e.0, each_put P rows e.1)

at_ds : (p : Spread) (new : ℕ) → Each (λ (c : Change). c.place.space.area ≡ 0) (map put_row (rows_put p new))
at_ds p new =
    each_put (λ (c : Change). c.place.space.area ≡ 0) (rows_put p new) (
      refl,
      filtered_each (λ (r : Stored). r.place.space.area ≡ 0) tells_moving (rows_from p.number 0 (reassign p.entries p.members new))
          (each_numbered entries_space p.number entry_row (λ q. q.space.area ≡ 0) (λ i. refl) 0 (reassign p.entries p.members new)),
    )

-- ---- ADD RDAREA

module _ (table area_name : List ℕ) where
  abbrev st : Statement
  st = statement.AddArea table area_name

  abbrev taken : List ℕ → Option Area → Bool
  taken ms o = list_any (λ n. unwrap_or (option_map (λ (a : Area). a.number == n) o) false) ms

  abbrev two_by : List ℕ → Option Area → Option Reply
  two_by ms o = two (is_none o) (taken ms o)

  abbrev four_by : List ℕ → List Entry → Option Area → Option Reply
  four_by ms es o = four (is_none o) (taken ms o) (list_any is_moving es) (nat_le 16 (length ms))

  abbrev rows_by : ℕ → List ℕ → List Entry → ℕ → List Stored
  rows_by n ms es new = at_place members_space n (length ms + 1) (member_row new) ∷ filter tells_moving (rows_from n 0 (reassign es ms new))

  abbrev ending : ℕ → List ℕ → List Entry → Option Area → Planning Reply
  ending n ms es o = writes (map put_row (rows_by n ms es (number_of o))) >> pure reply.Added

  abbrev with_entries : ℕ → Option Area → List ℕ → List Entry → Marked Reply
  with_entries n o ms es = marking (refuse (four_by ms es o)) (λ _. last (ending n ms es o))

  abbrev plain_entries : ℕ → Option Area → List ℕ → List Entry → Planning Reply
  plain_entries n o ms es = refuse (four_by ms es o) >> ending n ms es o

  abbrev scan_entries : ℕ → Planning (List Stored)
  scan_entries n = scan_group ds (dictionary_space entries_space) n

  abbrev scan_members : ℕ → Planning (List Stored)
  scan_members n = scan_group ds (dictionary_space members_space) n

  abbrev behind_entries : ℕ → Option Area → List ℕ → Marked Reply
  behind_entries n o ms = marking (scan_entries n) (λ rows. with_entries n o ms (entries_of rows))

  abbrev with_members : ℕ → Option Area → List ℕ → Marked Reply
  with_members n o ms = marking (refuse (two_by ms o)) (λ _. marking (lock_group entries_space n) (λ _. behind_entries n o ms))

  abbrev plain_members : ℕ → Option Area → List ℕ → Planning Reply
  plain_members n o ms = refuse (two_by ms o) >> (lock_group entries_space n >> (scan_entries n >>= (λ rows. plain_entries n o ms (entries_of rows))))

  abbrev behind_members : ℕ → Option Area → Marked Reply
  behind_members n o = marking (scan_members n) (λ rows. with_members n o (filter_map member_of rows))

  abbrev with_area : ℕ → Option Area → Marked Reply
  with_area n o = marking (some_or reply.NoArea o) (λ _. marking (lock_group members_space n) (λ _. behind_members n o))

  abbrev plain_area : ℕ → Option Area → Planning Reply
  plain_area n o = some_or reply.NoArea o >> (lock_group members_space n >> (scan_members n >>= (λ rows. plain_members n o (filter_map member_of rows))))

  abbrev named : List Area → Option Area
  named some = find (λ (a : Area). bytes_eq a.name area_name) some

  abbrev with_found : Found → Marked Reply
  with_found f = marking (areas mode.S) (λ rows. with_area f.0 (named (filter_map area_of rows)))

  abbrev plain_found : Found → Planning Reply
  plain_found f = areas mode.S >>= (λ rows. plain_area f.0 (named (filter_map area_of rows)))

  abbrev marked : Marked Reply
  marked = marking (table_of table) with_found

  forgets_entries : (n : ℕ) (o : Option Area) (ms : List ℕ) (es : List Entry) (u : Use) → unmarked (with_entries n o ms es u) ≡ plain_entries n o ms es u
  forgets_entries n o ms es u = forget_marking (refuse (four_by ms es o)) (λ _. last (ending n ms es o)) (λ _. ending n ms es o) (λ _ v. forget_last (ending n ms es o) v) u

  forgets_members : (n : ℕ) (o : Option Area) (ms : List ℕ) (u : Use) → unmarked (with_members n o ms u) ≡ plain_members n o ms u
  forgets_members n o ms u =
      let scanned : Planning Reply = scan_entries n >>= (λ rows. plain_entries n o ms (entries_of rows)) in
      forget_marking (refuse (two_by ms o)) (λ _. marking (lock_group entries_space n) (λ _. behind_entries n o ms)) (λ _. lock_group entries_space n >> scanned)
      (λ _ v. forget_marking (lock_group entries_space n) (λ _. behind_entries n o ms) (λ _. scanned)
      (λ _ w. forget_marking (scan_entries n) (λ rows. with_entries n o ms (entries_of rows)) (λ rows. plain_entries n o ms (entries_of rows))
      (λ rows x. forgets_entries n o ms (entries_of rows) x) w) v) u

  forgets_area : (n : ℕ) (o : Option Area) (u : Use) → unmarked (with_area n o u) ≡ plain_area n o u
  forgets_area n o u =
      let scanned : Planning Reply = scan_members n >>= (λ rows. plain_members n o (filter_map member_of rows)) in
      forget_marking (some_or reply.NoArea o) (λ _. marking (lock_group members_space n) (λ _. behind_members n o)) (λ _. lock_group members_space n >> scanned)
      (λ _ v. forget_marking (lock_group members_space n) (λ _. behind_members n o) (λ _. scanned)
      (λ _ w. forget_marking (scan_members n) (λ rows. with_members n o (filter_map member_of rows)) (λ rows. plain_members n o (filter_map member_of rows))
      (λ rows x. forgets_members n o (filter_map member_of rows) x) w) v) u

  forgets_found : (f : Found) (u : Use) → unmarked (with_found f u) ≡ plain_found f u
  forgets_found f u =
      forget_marking (areas mode.S) (λ rows. with_area f.0 (named (filter_map area_of rows))) (λ rows. plain_area f.0 (named (filter_map area_of rows)))
      (λ rows v. forgets_area f.0 (named (filter_map area_of rows)) v) u

  forgets : (back_ends : ℕ) (u : Use) → unmarked (marked u) ≡ plan back_ends st u
  unfolding plan
  forgets back_ends u = forget_marking (table_of table) with_found plain_found forgets_found u

  module _ (back_ends : ℕ) (u : Use) (family : Family) (s : State) (few : back_ends ≤ most_back_ends) (within : IsWithin u) (sys : Sys back_ends family s) where
    abbrev C : Bool → Stand → Reply → Type 0
    C = Closed back_ends u st s

    abbrev F : Stand → Reply → Use → Type 0
    F z e v = C (is_too_much e) z e

    abbrev o : Option Area
    o = area_named s area_name

    effect_none : spread_named s table ≡ None → effect back_ends s st ≡ Err reply.NoTable
    unfolding effect
    effect_none h = ap (λ q. unwrap_or (option_map (added_in s table o) q) (Err reply.NoTable)) h

    no_spread : table_named s table ≡ None → (q : Option Spread) → spread_named s table ≡ q → q ≡ None
    no_spread none None h = refl
    no_spread none (Some p) h =
        let f = find_holds (λ (z : Spread). bytes_eq z.name table) s.layout.spreads p h in
        let is = in_Each (IsSpread s) p s.layout.spreads f.1 sys.state.spreads in
        absurd (false≢true (sym (ap (λ n. is_there (table_named s n)) ((bytes_eq-Decides p.name table).0 f.0) ∙ ap is_there none) ∙ is.of_table))
      where
        is_there : Option Table → Bool
        is_there None = false
        is_there (Some t) = true

    unfound : table_named s table ≡ None → Comes (marked u) (start family u) (Settled C)
    unfound none =
        marking_comes C (table_of table) with_found u (start family u)
        (no_table_comes F table u (start family u) _ refl (λ v g reached. too_many back_ends u st family s sys u.locks reached within.locks (omega arith))
        (no_table_told back_ends family s sys table none)
        (λ v g l. refused_at back_ends u st family s sys (u.locks + 1) reply.NoTable (effect_none (no_spread none (spread_named s table) refl)) refl (omega (arith, l)) (omega arith)))

    module _ (t : Table) (p : Spread) (is : table_named s table ≡ Some t) (there : spread_named s table ≡ Some p) where
      own : IsIn p s.layout.spreads
      own = (find_holds (λ (z : Spread). bytes_eq z.name table) s.layout.spreads p there).1

      abbrev done : Effect
      done = record {
        state = add_area s table (number_of o);
        reply = reply.Added;
        bytes = change_size (member_row (number_of o)) + sum_by (λ e. change_size (entry_row e)) (changed_entries p (number_of o));
      }

      effect_is : (r : Option Reply) → four_by p.members p.entries o ≡ r → effect back_ends s st ≡ unless r done
      unfolding effect
      effect_is r h = ap (λ q. unwrap_or (option_map (added_in s table o) q) (Err reply.NoTable)) there ∙ ap (λ x. unless x done) h

      other : (r : Reply) → four_by p.members p.entries o ≡ Some r → is_too_much r ≡ false
      other r h = four_other (is_none o) (taken p.members o) (list_any is_moving p.entries) (nat_le 16 (length p.members)) r h

      module _ (a : Area) (got : o ≡ Some a) (accepted : four_by p.members p.entries o ≡ None) where
        parts : (is_none o ≡ false) × (taken p.members o ≡ false) × (list_any is_moving p.entries ≡ false) × (nat_le 16 (length p.members) ≡ false)
        parts = four_none (is_none o) (taken p.members o) (list_any is_moving p.entries) (nat_le 16 (length p.members)) accepted

        number_is : number_of o ≡ a.number
        number_is = ap number_of got

        at_areas : Has (λ (b : Area). b.number ≡ number_of o) s.layout.areas
        at_areas = Has-of (λ (b : Area). b ≡ a) (λ (b : Area). b.number ≡ number_of o) s.layout.areas (λ b e. ap (λ (z : Area). z.number) e ∙ sym number_is)
            (find_holds (λ (b : Area). bytes_eq b.name area_name) s.layout.areas a got).1

        fresh : list_any (λ n. number_of o == n) p.members ≡ false
        fresh = ap (λ k. list_any (λ n. k == n) p.members) number_is ∙ sym (ap (taken p.members) got) ∙ parts.1

        room : length p.members < 16
        room = below 16 (length p.members) parts.3

        some_servers : 1 ≤ length family
        some_servers = let e = sys.servers in omega (arith, e)

        left : Sys back_ends (written family (map put_row (rows_put p (number_of o)))) (add_area s table (number_of o))
        left = sys_after back_ends few family s sys table p there (number_of o) at_areas parts.2 fresh room (written family (map put_row (rows_put p (number_of o))))
            (put_written family (map put_row (rows_put p (number_of o))) some_servers (at_ds p (number_of o)))

        size : sizes (map put_row (rows_put p (number_of o))) ≡ done.bytes
        size =
            size_first members_space p.number (length p.members + 1) (member_row (number_of o)) (entries_put p (number_of o))
            ∙ ap (λ n. change_size (member_row (number_of o)) + n)
            (moved_size p.number 0 (reassign p.entries p.members (number_of o)) (all_sited back_ends few family s sys table p there (number_of o) at_areas parts.2 fresh room))

        writes_all : (v : Use) → v.bytes ≡ u.bytes → u.locks + 3 < most_locks → Comes (last (ending p.number p.members p.entries o) v) (at family (u.locks + 4)) (Settled C)
        writes_all v even low =
            writes_end back_ends u st family s sys done (map put_row (rows_put p (number_of o))) v (u.locks + 4) (effect_is None accepted) even size left refl (omega (arith, low))

      add_one : (n k m : ℕ) → k + 1 ≡ m → (n + k) + 1 ≡ n + m
      add_one n k m e = omega (arith, e)

      less : (k : ℕ) → k < 4 → u.locks + k < u.locks + locks_of s st
      less k l = omega (arith, l)

      -- behind the entries
      refused_last : (a : Area) → o ≡ Some a → (v : Use) → v.bytes ≡ u.bytes → u.locks + 3 < most_locks → (r : Option Reply) → four_by p.members p.entries o ≡ r
          → Comes (marking (refuse r) (λ _. last (ending p.number p.members p.entries o)) v) (at family (u.locks + 4)) (Settled C)
      refused_last a got v even low None h = writes_all a got h v even low
      refused_last a got v even low (Some r) h =
          λ x. refused_at back_ends u st family s sys (u.locks + 4) r (effect_is (Some r) h) (other r h) (omega (arith, low)) (omega arith)

      scans_entries : (a : Area) → o ≡ Some a → (v : Use) → v.bytes ≡ u.bytes → u.locks + 3 < most_locks → Comes (behind_entries p.number o p.members v) (at family (u.locks + 4)) (Settled C)
      scans_entries a got v even low =
          marking_comes C (scan_entries p.number) (λ rows. with_entries p.number o p.members (entries_of rows)) v (at family (u.locks + 4))
          (scan_group_comes F ds (dictionary_space entries_space) p.number v (at family (u.locks + 4)) (λ y rows w. Comes (with_entries p.number o p.members (entries_of rows) w) y (Settled C))
          (subst (λ es. Comes (with_entries p.number o p.members es v) (at family (u.locks + 4)) (Settled C)) (sym (entries_told back_ends family s sys few p own))
          (refused_last a got v even low (four_by p.members p.entries o) refl)))

      -- behind the members
      refused_early : (a : Area) → o ≡ Some a → (v : Use) → v.locks ≡ u.locks + 3 → v.bytes ≡ u.bytes → u.locks + 2 < most_locks → (r : Option Reply) → two_by p.members o ≡ r
          → Comes (marking (refuse r) (λ _. marking (lock_group entries_space p.number) (λ _. behind_entries p.number o p.members)) v) (at family (u.locks + 3)) (Settled C)
      refused_early a got v locks even low (Some r) h =
          λ x. let all = two_first (is_none o) (taken p.members o) (list_any is_moving p.entries) (nat_le 16 (length p.members)) r h in
          refused_at back_ends u st family s sys (u.locks + 3) r (effect_is (Some r) all) (other r all) (omega (arith, low)) (omega arith)
      refused_early a got v locks even low None h =
          marking_comes C (lock_group entries_space p.number) (λ _. behind_entries p.number o p.members) v (at family (u.locks + 3))
          (lock_comes F ds (entries_path p.number) mode.X v (at family (u.locks + 3)) (λ y b w. Comes (behind_entries p.number o p.members w) y (Settled C)) locks
          (λ w g reached. too_many back_ends u st family s sys (u.locks + 3) reached (omega (arith, low)) (less 3 (omega arith)))
          (λ w g l. subst (λ n. Comes (behind_entries p.number o p.members w) (at family n) (Settled C)) (sym (add_one u.locks 3 4 refl)) (scans_entries a got w (g.bytes ∙ even) l)))

      scans_members : (a : Area) → o ≡ Some a → (v : Use) → v.locks ≡ u.locks + 3 → v.bytes ≡ u.bytes → u.locks + 2 < most_locks → Comes (behind_members p.number o v) (at family (u.locks + 3)) (Settled C)
      scans_members a got v locks even low =
          marking_comes C (scan_members p.number) (λ rows. with_members p.number o (filter_map member_of rows)) v (at family (u.locks + 3))
          (scan_group_comes F ds (dictionary_space members_space) p.number v (at family (u.locks + 3)) (λ y rows w. Comes (with_members p.number o (filter_map member_of rows) w) y (Settled C))
          (subst (λ ms. Comes (with_members p.number o ms v) (at family (u.locks + 3)) (Settled C)) (sym (members_told back_ends family s sys few p own))
          (refused_early a got v locks even low (two_by p.members o) refl)))

      -- behind the areas
      by_area : (v : Use) → v.locks ≡ u.locks + 2 → v.bytes ≡ u.bytes → u.locks + 1 < most_locks → (q : Option Area) → o ≡ q
          → Comes (marking (some_or reply.NoArea q) (λ _. marking (lock_group members_space p.number) (λ _. behind_members p.number o)) v) (at family (u.locks + 2)) (Settled C)
      by_area v locks even low None got =
          λ x. let first : two_by p.members o ≡ Some reply.NoArea = ap (two_by p.members) got in
          let all = two_first (is_none o) (taken p.members o) (list_any is_moving p.entries) (nat_le 16 (length p.members)) reply.NoArea first in
          refused_at back_ends u st family s sys (u.locks + 2) reply.NoArea (effect_is (Some reply.NoArea) all) refl (omega (arith, low)) (omega arith)
      by_area v locks even low (Some a) got =
          marking_comes C (lock_group members_space p.number) (λ _. behind_members p.number o) v (at family (u.locks + 2))
          (lock_comes F ds (members_path p.number) mode.X v (at family (u.locks + 2)) (λ y b w. Comes (behind_members p.number o w) y (Settled C)) locks
          (λ w g reached. too_many back_ends u st family s sys (u.locks + 2) reached (omega (arith, low)) (less 2 (omega arith)))
          (λ w g l. subst (λ n. Comes (behind_members p.number o w) (at family n) (Settled C)) (sym (add_one u.locks 2 3 refl))
          (scans_members a got w (g.locks ∙ add_one u.locks 2 3 refl) (g.bytes ∙ even) l)))

      abbrev sp : Space
      sp = dictionary_space areas_space

      abbrev Q : Stand → List Stored → Use → Type 0
      Q y rows w = Comes (with_area p.number (named (filter_map area_of rows)) w) y (Settled C)

      behind_table : (v : Use) → Goes u v (u.locks + 1) → u.locks < most_locks → Comes (with_found (p.number, no_rows t) v) (at family (u.locks + 1)) (Settled C)
      behind_table v g low =
          marking_comes C (areas mode.S) (λ rows. with_area p.number (named (filter_map area_of rows))) v (at family (u.locks + 1))
          (plans_bind (lock ds areas_path mode.S) (λ _. scan ds sp) v (at family (u.locks + 1)) Q F
          (lock_comes F ds areas_path mode.S v (at family (u.locks + 1)) (λ y b w. Plans (scan ds sp) w y Q F) g.locks
          (λ w h reached. too_many back_ends u st family s sys (u.locks + 1) reached (omega (arith, low)) (less 1 (omega arith)))
          (λ w h l. scan_comes F ds sp w (granted (at family (u.locks + 1))) Q
          (subst (λ some. Comes (with_area p.number (named some) w) (at family ((u.locks + 1) + 1)) (Settled C)) (sym (areas_told back_ends family s sys few))
          (subst (λ n. Comes (with_area p.number o w) (at family n) (Settled C)) (sym (add_one u.locks 1 2 refl))
          (by_area w (h.locks ∙ add_one u.locks 1 2 refl) (h.bytes ∙ g.bytes) l o refl))))))

    comes : (q : Option Table) → table_named s table ≡ q → Comes (marked u) (start family u) (Settled C)
    comes None none = unfound none
    comes (Some t) is =
        let p = spread_there back_ends s sys.state table t is in
        marking_comes C (table_of table) with_found u (start family u)
        (table_comes F table u (start family u) _ refl (λ v g reached. too_many back_ends u st family s sys u.locks reached within.locks (omega arith))
        (p.0.number, no_rows t) (table_told back_ends family s sys table t p.0 is p.1) (λ v g l. behind_table t p.0 is p.1 v g l))

add_where : (table area : List ℕ) → PlanDoesWhere (λ s. Unit {0}) (statement.AddArea table area)
add_where table area =
    marked_does_where (λ s. Unit {0}) (statement.AddArea table area) (λ _. marked table area) (λ back_ends u. forgets table area back_ends u)
    (λ back_ends u family s _ few within sys. comes table area back_ends u family s few within sys (table_named s table) refl)

pub add_area_rightly : (table area : List ℕ) → PlanDoes (statement.AddArea table area)
add_area_rightly table area back_ends u v calls r few within follows inside =
    let d = add_where table area back_ends u v calls r few within follows inside in (d.0, λ family s sys ans. d.1 family s tt sys ans)
