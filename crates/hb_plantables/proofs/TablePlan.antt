-- What the plan of CREATE TABLE comes to.
use Rattle.std.proofs.Common.{◌≡◌, ℕ, ◌+◌, ◌≤◌, ◌<◌, List, [], ◌∷◌, ◌++◌, length, map, Option, Some, None, Bool, true, false, not, refl, subst, sym, ap, ◌∙◌, arith}
use Rattle.std.specs.Prelude.{◌||◌, ◌==◌, filter_map, is_none, is_some, nat_le, nat_lt, slice_get, sum_by, take, IsSome}
use Rattle.std.specs.List.{list_any}
use Rattle.std.specs.Str.{bytes_eq}
use Rattle.std.proofs.lemmas.Bool.{false≢true}
use Rattle.std.proofs.lemmas.Bool.Decides.{nat_tests}
use Rattle.std.proofs.lemmas.List.Elements.{recursion_from_All}
use Rattle.hb_types.specs.declared.change.Change.{Change}
use Rattle.hb_types.specs.declared.change.Stored.{Stored}
use Rattle.hb_types.specs.declared.entry.Entry.{Entry}
use Rattle.hb_types.specs.declared.lock.Mode.TheVariants as mode
use Rattle.hb_types.specs.declared.places.Path.TheVariants as path
use Rattle.hb_types.specs.declared.places.Space.{Space}
use Rattle.hb_types.specs.declared.value.Column.{Column}
use Rattle.hb_types.specs.Groups.{first_entries}
use Rattle.hb_types.specs.Lists.{Each, has_twins}
use Rattle.hb_types.specs.Places.{node_of_area}
use Rattle.hb_types.specs.Put.{rows_under}
use Rattle.hb_types.proofs.Ascending.{Each-append, Each-of}
use Rattle.hb_groups.specs.Counts.{IsPlaced}
use Rattle.hb_groups.proofs.Shares.{first-even, first-full, first-placed}
use Rattle.hb_model.specs.declared.reply.Reply.{Reply}
use Rattle.hb_model.specs.declared.reply.Reply.TheVariants as reply
use Rattle.hb_model.specs.declared.statement.Statement.{Statement}
use Rattle.hb_model.specs.declared.statement.Statement.TheVariants as statement
use Rattle.hb_model.specs.declared.table.Table.{Table}
use Rattle.hb_model.specs.Answers.{rows_of}
use Rattle.hb_model.specs.Define.{create_table, create_table_refusals, is_key_number, new_spread, new_table, numbers_of}
use Rattle.hb_model.specs.Dictionary.{entry_row, entry_rows, member_row, member_rows, table_row}
use Rattle.hb_model.specs.Does.{effect}
use Rattle.hb_model.specs.Families.{Family}
use Rattle.hb_model.specs.Needs.{locks_of, most_locks}
use Rattle.hb_model.specs.Refusals.{Effect, change_size, first_refusal, unless}
use Rattle.hb_model.specs.Spots.{ds, areas_space, dictionary_space, entries_space, members_space, tables_space}
use Rattle.hb_model.specs.State.{State, Area, Spread, area_named, nothing, table_named}
use Rattle.hb_model.specs.System.{Sys}
use Rattle.hb_model.specs.Valid.{IsName, IsSpread, IsTable}
use Rattle.hb_talk.specs.Plans.{sizes, writes}
use Rattle.hb_talk.specs.PlansDefine.{area_of, areas, lock_group, new_rows, plan, put_row, with_tables}
use Rattle.hb_talk.specs.Talk.{Use, Planning, ◌>>=◌, ◌>>◌, lock, pure, refuse, scan}
use Rattle.hb_plancalc.specs.Counted.{IsWithin}
use Rattle.hb_planlaws.specs.Planned.{PlanDoes, PlanDoesWhere, most_back_ends}
use Rattle.hb_plancalc.proofs.Comes.{Stand, Comes, Plans, plans_bind}
use Rattle.hb_plancalc.proofs.Steps.{Goes, granted, lock_comes, scan_comes}
use Rattle.hb_planlaws.proofs.Ends.{at, is_too_much, start}
use Rattle.hb_planlaws.proofs.Scans.{tables}
use Rattle.hb_planwrites.proofs.Closing.{Closed, marked_does_where, written}
use Rattle.hb_planwrites.proofs.Marks.{Marked, Settled, forget_last, forget_marking, last, marking, marking_comes, unmarked}
use Rattle.hb_planwrites.proofs.Tabled.{refused_at, too_many}
use Rattle.hb_planareas.proofs.AreaRows.{areas_path, areas_told}
use Rattle.hb_plantables.proofs.Longer.{IsNext, own_table}
use Rattle.hb_plantables.proofs.NewSpread.{all_differ, each_of_all, is_spread, length_numbers, near, numbers_differ, numbers_there, settled_at}
use Rattle.hb_plantables.proofs.NewTable.{new_is_table}
use Rattle.hb_plantables.proofs.NextSystem.{IsSettled, sys_after}
use Rattle.hb_plantables.proofs.Puts.{each_numbered, put_written, size_first, sizes_joined, sizes_numbered}
use Rattle.hb_plantables.proofs.WritesEnd.{writes_end}
use Rattle.hb_plantables.proofs.Scanned.{name_told, scanned, spreads_counted, tables_counted}

-- ---- refusals

abbrev early : Bool → Bool → Bool → Bool → Bool → Option Reply
early a b c d e = first_refusal ((a, reply.TableThere) ∷ (b, reply.TooMany) ∷ (c, reply.ColumnTwice) ∷ (d, reply.NoColumn) ∷ (e, reply.WrongType) ∷ [])

abbrev all : Bool → Bool → Bool → Bool → Bool → Bool → Bool → Option Reply
all a b c d e f g =
    first_refusal ((a, reply.TableThere) ∷ (b, reply.TooMany) ∷ (c, reply.ColumnTwice) ∷ (d, reply.NoColumn) ∷ (e, reply.WrongType) ∷ (f, reply.NoArea) ∷ (g, reply.AreaThere) ∷ [])

early_first : (a b c d e f g : Bool) (r : Reply) → early a b c d e ≡ Some r → all a b c d e f g ≡ Some r
early_first true b c d e f g r h = h
early_first false true c d e f g r h = h
early_first false false true d e f g r h = h
early_first false false false true e f g r h = h
early_first false false false false true f g r h = h
early_first false false false false false f g r h = cc

other : (a b c d e f g : Bool) (r : Reply) → all a b c d e f g ≡ Some r → is_too_much r ≡ false
other true b c d e f g r h = let same : reply.TableThere ≡ r = cc in subst (λ x. is_too_much x ≡ false) same refl
other false true c d e f g r h = let same : reply.TooMany ≡ r = cc in subst (λ x. is_too_much x ≡ false) same refl
other false false true d e f g r h = let same : reply.ColumnTwice ≡ r = cc in subst (λ x. is_too_much x ≡ false) same refl
other false false false true e f g r h = let same : reply.NoColumn ≡ r = cc in subst (λ x. is_too_much x ≡ false) same refl
other false false false false true f g r h = let same : reply.WrongType ≡ r = cc in subst (λ x. is_too_much x ≡ false) same refl
other false false false false false true g r h = let same : reply.NoArea ≡ r = cc in subst (λ x. is_too_much x ≡ false) same refl
other false false false false false false true r h = let same : reply.AreaThere ≡ r = cc in subst (λ x. is_too_much x ≡ false) same refl
other false false false false false false false r h = cc

record Unrefused (a b c d e f g : Bool) : Type 0 where
  free : a ≡ false
  few : b ≡ false
  differ : c ≡ false
  keyed : d ≡ false
  typed : e ≡ false
  found : f ≡ false
  once : g ≡ false

unrefused : (a b c d e f g : Bool) → all a b c d e f g ≡ None → Unrefused a b c d e f g
unrefused true b c d e f g h = cc
unrefused false true c d e f g h = cc
unrefused false false true d e f g h = cc
unrefused false false false true e f g h = cc
unrefused false false false false true f g h = cc
unrefused false false false false false true g h = cc
unrefused false false false false false false true h = cc
unrefused false false false false false false false h = record { free = refl; few = refl; differ = refl; keyed = refl; typed = refl; found = refl; once = refl }

neither : (a b : Bool) → (a || b) ≡ false → (a ≡ false) × (b ≡ false)
neither true b e = absurd (false≢true (sym e))
neither false b e = (refl, e)

not_false : (b : Bool) → not b ≡ false → b ≡ true
not_false true e = refl
not_false false e = absurd (false≢true (sym e))

none_of : {A : Type 0} (o : Option A) → is_some o ≡ false → o ≡ None
none_of None h = refl
none_of (Some x) h = absurd (false≢true (sym h))

below : (n m : ℕ) → nat_le n m ≡ false → m < n
below n m f = grind (arith, nat_tests)

within_few : (n m : ℕ) → nat_lt n m ≡ false → m ≤ n
within_few n m f = grind (arith, nat_tests)

-- ---- the rows that are put

each_put : (P : Change → Type 0) (rows : List Stored) → Each (λ r. P (put_row r)) rows → Each P (map put_row rows)
each_put P [] e = tt
each_put P (r ∷ rows) e = (e.0, each_put P rows e.1)

at_ds : (t : Table) (p : Spread) → Each (λ (c : Change). c.place.space.area ≡ 0) (map put_row (new_rows t p))
at_ds t p =
    each_put (λ (c : Change). c.place.space.area ≡ 0) (new_rows t p) (
      refl,
      Each-append (λ (r : Stored). r.place.space.area ≡ 0) (member_rows p) (entry_rows p) (each_numbered members_space p.number member_row (λ q. q.space.area ≡ 0) (λ i. refl) 1 p.members)
          (each_numbered entries_space p.number entry_row (λ q. q.space.area ≡ 0) (λ i. refl) 0 p.entries),
    )

bytes_of : (t : Table) (p : Spread) → sizes (map put_row (new_rows t p))
    ≡ change_size (table_row t) + (sum_by (λ a. change_size (member_row a)) p.members + sum_by (λ e. change_size (entry_row e)) p.entries)
bytes_of t p =
    size_first tables_space 0 p.number (table_row t) (member_rows p ++ entry_rows p)
    ∙ ap (λ n. change_size (table_row t) + n) (sizes_joined (member_rows p) (entry_rows p)
    ∙ ap (λ n. n + sizes (map put_row (entry_rows p))) (sizes_numbered members_space p.number member_row 1 p.members)
    ∙ ap (λ n. sum_by (λ a. change_size (member_row a)) p.members + n) (sizes_numbered entries_space p.number entry_row 0 p.entries))

-- ---- CREATE TABLE

module _ (name : List ℕ) (columns : List Column) (key : List ℕ) (names : List (List ℕ)) where
  abbrev st : Statement
  st = statement.CreateTable name columns key names

  abbrev its_table : Table
  its_table = new_table name columns key

  abbrev many : ℕ → Bool
  many n = nat_le 64 n || (nat_lt 16 (length columns) || nat_lt 16 (length names))

  abbrev twice : Bool
  twice = has_twins (λ (a b : Column). bytes_eq a.name b.name) columns

  abbrev keyless : Bool
  keyless = not (list_any (λ (c : Column). bytes_eq c.name key) columns)

  abbrev untyped : Bool
  untyped = not (is_key_number columns key) || list_any (λ (c : Column). nat_lt 255 c.size) columns

  abbrev missing : State → Bool
  missing s = list_any (λ a. is_none (area_named s a)) names

  abbrev repeated : Bool
  repeated = has_twins bytes_eq names

  abbrev early_by : Bool → ℕ → Option Reply
  early_by there n = early there (many n) twice keyless untyped

  abbrev all_by : Bool → ℕ → Bool → Option Reply
  all_by there n gone = all there (many n) twice keyless untyped gone repeated

  abbrev with_some : State → List Area → State
  with_some s some = record s { layout = record s.layout { areas = some } }

  abbrev ending : Spread → Planning Reply
  ending p = writes (map put_row (new_rows its_table p)) >> pure reply.Created

  abbrev behind_members : Spread → Marked Reply
  behind_members p = marking (lock_group entries_space p.number) (λ _. last (ending p))

  abbrev locking : Spread → Marked Reply
  locking p = marking (lock_group members_space p.number) (λ _. behind_members p)

  abbrev plain_locking : Spread → Planning Reply
  plain_locking p = lock_group members_space p.number >> (lock_group entries_space p.number >> ending p)

  abbrev refusing : State → Planning (Unit {0})
  refusing s = refuse (first_refusal (create_table_refusals s name columns key names))

  abbrev with_areas : State → List Stored → Marked Reply
  with_areas s rows = marking (refusing (with_some s (filter_map area_of rows))) (λ _. locking (new_spread (with_some s (filter_map area_of rows)) name names))

  abbrev plain_with_areas : State → List Stored → Planning Reply
  plain_with_areas s rows = refusing (with_some s (filter_map area_of rows)) >> plain_locking (new_spread (with_some s (filter_map area_of rows)) name names)

  abbrev refusing_early : State → Planning (Unit {0})
  refusing_early s = refuse (first_refusal (take 5 (create_table_refusals s name columns key names)))

  abbrev with_names : List Stored → Marked Reply
  with_names rows = marking (refusing_early (with_tables nothing rows)) (λ _. marking (areas mode.S) (with_areas (with_tables nothing rows)))

  abbrev plain_with_names : List Stored → Planning Reply
  plain_with_names rows = refusing_early (with_tables nothing rows) >> (areas mode.S >>= plain_with_areas (with_tables nothing rows))

  abbrev scanning : Planning (List Stored)
  scanning = scan ds (dictionary_space tables_space)

  abbrev marked : Marked Reply
  marked = marking (lock ds tables mode.X) (λ _. marking scanning with_names)

  forgets_locking : (p : Spread) (u : Use) → unmarked (locking p u) ≡ plain_locking p u
  forgets_locking p u =
      forget_marking (lock_group members_space p.number) (λ _. behind_members p) (λ _. lock_group entries_space p.number >> ending p)
      (λ _ v. forget_marking (lock_group entries_space p.number) (λ _. last (ending p)) (λ _. ending p) (λ _ w. forget_last (ending p) w) v) u

  forgets_areas : (s : State) (rows : List Stored) (u : Use) → unmarked (with_areas s rows u) ≡ plain_with_areas s rows u
  forgets_areas s rows u =
      let p = new_spread (with_some s (filter_map area_of rows)) name names in
      forget_marking (refusing (with_some s (filter_map area_of rows))) (λ _. locking p) (λ _. plain_locking p) (λ _ v. forgets_locking p v) u

  forgets_names : (rows : List Stored) (u : Use) → unmarked (with_names rows u) ≡ plain_with_names rows u
  forgets_names rows u =
      let s = with_tables nothing rows in
      forget_marking (refusing_early s) (λ _. marking (areas mode.S) (with_areas s)) (λ _. areas mode.S >>= plain_with_areas s)
      (λ _ v. forget_marking (areas mode.S) (with_areas s) (plain_with_areas s) (forgets_areas s) v) u

  forgets : (back_ends : ℕ) (u : Use) → unmarked (marked u) ≡ plan back_ends st u
  unfolding plan
  forgets back_ends u =
      forget_marking (lock ds tables mode.X) (λ _. marking scanning with_names) (λ _. scanning >>= plain_with_names)
      (λ _ v. forget_marking scanning with_names plain_with_names forgets_names v) u

  -- ---- what the statement does

  module _ (back_ends : ℕ) (s : State) where
    abbrev its_spread : Spread
    its_spread = new_spread s name names

    abbrev done : Effect
    done = record {
      state = create_table s its_table its_spread;
      reply = reply.Created;
      bytes = change_size (table_row its_table) + (sum_by (λ a. change_size (member_row a)) its_spread.members + sum_by (λ e. change_size (entry_row e)) its_spread.entries);
    }

    abbrev refusal : Option Reply
    refusal = all_by (is_some (table_named s name)) (length s.tables) (missing s)

    effect_is : (o : Option Reply) → refusal ≡ o → effect back_ends s st ≡ unless o done
    unfolding effect
    effect_is o h = ap (λ x. unless x done) h

    other_refusal : (r : Reply) → refusal ≡ Some r → is_too_much r ≡ false
    other_refusal r h = other (is_some (table_named s name)) (many (length s.tables)) twice keyless untyped (missing s) repeated r h

    total : locks_of s st ≡ 4
    total = refl

    module _ (named : IsName name) (each : Each (λ (c : Column). IsName c.name) columns) (some : 1 ≤ length names) (accepted : refusal ≡ None) where
      parts : Unrefused (is_some (table_named s name)) (many (length s.tables)) twice keyless untyped (missing s) repeated
      parts = unrefused (is_some (table_named s name)) (many (length s.tables)) twice keyless untyped (missing s) repeated accepted

      is_next : IsNext s its_table its_spread
      is_next = record { number = refl; named = refl; free = none_of (table_named s name) parts.free }

      few_tables : length s.tables < 64
      few_tables = below 64 (length s.tables) (neither (nat_le 64 (length s.tables)) (nat_lt 16 (length columns) || nat_lt 16 (length names)) parts.few).0

      widths : (nat_lt 16 (length columns) ≡ false) × (nat_lt 16 (length names) ≡ false)
      widths = neither (nat_lt 16 (length columns)) (nat_lt 16 (length names)) (neither (nat_le 64 (length s.tables)) (nat_lt 16 (length columns) || nat_lt 16 (length names)) parts.few).1

      table_fits : IsTable its_table
      table_fits =
          let typed = neither (not (is_key_number columns key)) (list_any (λ (c : Column). nat_lt 255 c.size) columns) parts.typed in
          new_is_table name columns key named each (within_few 16 (length columns) widths.0) parts.differ (not_false _ parts.keyed) (not_false _ typed.0) typed.1

      module _ (family : Family) (sys : Sys back_ends family s) where
        abbrev members : List ℕ
        members = numbers_of s names

        members_length : length members ≡ length names
        members_length = length_numbers s sys.state.areas.ascend names parts.found

        members_differ : has_twins (λ (a b : ℕ). a == b) members ≡ false
        members_differ = numbers_differ s sys.state.areas.ascend names parts.found parts.once

        some_members : 1 ≤ length members
        some_members = let e = members_length in omega (arith, e, some)

        few_members : length members ≤ 16
        few_members = let e = members_length in let few = within_few 16 (length names) widths.1 in omega (arith, e, few)

        placed : Each (IsPlaced members) its_spread.entries
        placed = each_of_all (IsPlaced members) (first_entries members) (recursion_from_All (IsPlaced members) (first_entries members) (first-placed members some_members))

        own : IsSome (table_named (create_table s its_table its_spread) name)
        own = ap is_some (own_table s its_table its_spread is_next)

        spread_fits : IsSpread (create_table s its_table its_spread) its_spread
        spread_fits =
            is_spread (create_table s its_table its_spread) its_spread own some_members few_members members_differ (numbers_there s sys.state.areas.ascend names parts.found) (first-full members) placed
            (λ i l. first-even members i some_members few_members (all_differ members members_differ) l)

        settled : (g : ℕ) (e : Entry) → slice_get its_spread.entries g ≡ Some e → IsSettled e
        settled = settled_at members its_spread.entries
            (Each-of _ (λ m. 2 ≤ node_of_area m) members (λ m h. near back_ends s m sys.state.areas.each h) (numbers_there s sys.state.areas.ascend names parts.found)) placed

        abbrev changes : List Change
        changes = map put_row (new_rows its_table its_spread)

        left : Sys back_ends (written family changes) (create_table s its_table its_spread)
        left =
            let some_servers : 1 ≤ length family = (let e = sys.servers in omega (arith, e)) in
            sys_after back_ends family (written family changes) s sys its_table its_spread is_next few_tables table_fits refl spread_fits settled
            (put_written family changes some_servers (at_ds its_table its_spread))

  -- ---- what the plan comes to

  module _ (named : IsName name) (each : Each (λ (c : Column). IsName c.name) columns) (some : 1 ≤ length names)
      (back_ends : ℕ) (u : Use) (family : Family) (s : State) (few : back_ends ≤ most_back_ends) (within : IsWithin u) (sys : Sys back_ends family s) where
    abbrev C : Bool → Stand → Reply → Type 0
    C = Closed back_ends u st s

    abbrev F : Stand → Reply → Use → Type 0
    F z e v = C (is_too_much e) z e

    abbrev p : Spread
    p = its_spread back_ends s

    writes_all : refusal back_ends s ≡ None → (v : Use) → v.bytes ≡ u.bytes → u.locks + 3 < most_locks → Comes (last (ending p) v) (at family (u.locks + 4)) (Settled C)
    writes_all h v even low =
        writes_end back_ends u st family s sys (done back_ends s) (map put_row (new_rows its_table p)) v (u.locks + 4) (effect_is back_ends s None h) even (bytes_of its_table p)
        (left back_ends s named each some h family sys) refl (omega (arith, low))

    locks_all : refusal back_ends s ≡ None → (v : Use) → v.locks ≡ u.locks + 2 → v.bytes ≡ u.bytes → u.locks + 1 < most_locks → Comes (locking p v) (at family (u.locks + 2)) (Settled C)
    locks_all h v locks bytes low =
        marking_comes C (lock_group members_space p.number) (λ _. behind_members p) v (at family (u.locks + 2))
        (lock_comes F ds (path.Group (dictionary_space members_space) p.number) mode.X v (at family (u.locks + 2)) (λ y a w. Comes (behind_members p w) y (Settled C)) locks
        (λ w g reached. too_many back_ends u st family s sys (u.locks + 2) reached (omega (arith, low)) (less 2 (omega arith)))
        (λ w g l. second w (g.locks ∙ three u.locks) (g.bytes ∙ bytes) l))
      where
        three : (n : ℕ) → (n + 2) + 1 ≡ n + 3
        three n = omega arith

        four : (n : ℕ) → (n + 3) + 1 ≡ n + 4
        four n = omega arith

        less : (k : ℕ) → k < 4 → u.locks + k < u.locks + locks_of s st
        less k l = omega (arith, l)

        second : (w : Use) → w.locks ≡ u.locks + 3 → w.bytes ≡ u.bytes → u.locks + 2 < most_locks → Comes (behind_members p w) (at family ((u.locks + 2) + 1)) (Settled C)
        second w locks bytes low =
            subst (λ n. Comes (behind_members p w) (at family n) (Settled C)) (sym (three u.locks))
            (marking_comes C (lock_group entries_space p.number) (λ _. last (ending p)) w (at family (u.locks + 3))
            (lock_comes F ds (path.Group (dictionary_space entries_space) p.number) mode.X w (at family (u.locks + 3)) (λ y a x. Comes (last (ending p) x) y (Settled C)) locks
            (λ x g reached. too_many back_ends u st family s sys (u.locks + 3) reached (omega (arith, low)) (less 3 (omega arith)))
            (λ x g l. subst (λ n. Comes (last (ending p) x) (at family n) (Settled C)) (sym (four u.locks)) (writes_all h x (g.bytes ∙ bytes) l))))

    -- behind the areas
    refused_late : (v : Use) → v.locks ≡ u.locks + 2 → v.bytes ≡ u.bytes → u.locks + 1 < most_locks → (o : Option Reply) → refusal back_ends s ≡ o
        → Comes (marking (refuse o) (λ _. locking p) v) (at family (u.locks + 2)) (Settled C)
    refused_late v locks bytes low None h = locks_all h v locks bytes low
    refused_late v locks bytes low (Some r) h =
        λ x. refused_at back_ends u st family s sys (u.locks + 2) r (effect_is back_ends s (Some r) h) (other_refusal back_ends s r h) (omega (arith, low)) (omega arith)

    abbrev seen : State
    seen = scanned back_ends family s sys

    same_refusal : first_refusal (create_table_refusals (with_some seen s.layout.areas) name columns key names) ≡ refusal back_ends s
    same_refusal =
        ap (λ b. all_by b (length seen.tables) (missing s)) (name_told back_ends family s sys name)
        ∙ ap (λ n. all_by (is_some (table_named s name)) n (missing s)) (tables_counted back_ends family s sys)

    abbrev spread_numbered : ℕ → Spread
    spread_numbered n = record { number = n + 1; name = name; members = numbers_of s names; entries = first_entries (numbers_of s names) }

    same_spread : new_spread (with_some seen s.layout.areas) name names ≡ p
    same_spread = ap spread_numbered (spreads_counted back_ends family s sys)

    behind_areas : (v : Use) → v.locks ≡ u.locks + 2 → v.bytes ≡ u.bytes → u.locks + 1 < most_locks → Comes (with_areas seen (rows_under areas_path (rows_of ds family)) v) (at family (u.locks + 2)) (Settled C)
    behind_areas v locks bytes low =
        subst (λ some. Comes (marking (refusing (with_some seen some)) (λ _. locking (new_spread (with_some seen some) name names)) v) (at family (u.locks + 2)) (Settled C))
        (sym (areas_told back_ends family s sys few))
        (subst (λ q. Comes (marking (refusing (with_some seen s.layout.areas)) (λ _. locking q) v) (at family (u.locks + 2)) (Settled C)) (sym same_spread)
        (subst (λ o. Comes (marking (refuse o) (λ _. locking p) v) (at family (u.locks + 2)) (Settled C)) (sym same_refusal) (refused_late v locks bytes low (refusal back_ends s) refl)))

    -- behind the names
    same_early : first_refusal (take 5 (create_table_refusals seen name columns key names)) ≡ early_by (is_some (table_named s name)) (length s.tables)
    same_early =
        ap (λ b. early_by b (length seen.tables)) (name_told back_ends family s sys name) ∙ ap (λ n. early_by (is_some (table_named s name)) n) (tables_counted back_ends family s sys)

    refused_early : (v : Use) → v.locks ≡ u.locks + 1 → v.bytes ≡ u.bytes → u.locks < most_locks → (o : Option Reply) → early_by (is_some (table_named s name)) (length s.tables) ≡ o
        → Comes (marking (refuse o) (λ _. marking (areas mode.S) (with_areas seen)) v) (at family (u.locks + 1)) (Settled C)
    refused_early v locks bytes low (Some r) h =
        λ x. let late = early_first (is_some (table_named s name)) (many (length s.tables)) twice keyless untyped (missing s) repeated r h in
        refused_at back_ends u st family s sys (u.locks + 1) r (effect_is back_ends s (Some r) late) (other_refusal back_ends s r late) (omega (arith, low)) (omega arith)
    refused_early v locks bytes low None h =
        marking_comes C (areas mode.S) (with_areas seen) v (at family (u.locks + 1))
        (plans_bind (lock ds areas_path mode.S) (λ _. scan ds sp) v (at family (u.locks + 1)) Q F
        (lock_comes F ds areas_path mode.S v (at family (u.locks + 1)) (λ y a w. Plans (scan ds sp) w y Q F) locks
        (λ w g reached. too_many back_ends u st family s sys (u.locks + 1) reached (omega (arith, low)) (omega arith))
        (λ w g l. scan_comes F ds sp w (granted (at family (u.locks + 1))) Q
        (subst (λ n. Comes (with_areas seen (rows_under areas_path (rows_of ds family)) w) (at family n) (Settled C)) (sym (two u.locks)) (behind_areas w (g.locks ∙ two u.locks) (g.bytes ∙ bytes) l)))))
      where
        two : (n : ℕ) → (n + 1) + 1 ≡ n + 2
        two n = omega arith

        sp : Space
        sp = dictionary_space areas_space

        Q : Stand → List Stored → Use → Type 0
        Q y rows w = Comes (with_areas seen rows w) y (Settled C)

    behind_names : (v : Use) → Goes u v (u.locks + 1) → u.locks < most_locks → Comes (with_names (rows_under tables (rows_of ds family)) v) (at family (u.locks + 1)) (Settled C)
    behind_names v g low =
        subst (λ o. Comes (marking (refuse o) (λ _. marking (areas mode.S) (with_areas seen)) v) (at family (u.locks + 1)) (Settled C)) (sym same_early)
        (refused_early v g.locks g.bytes low (early_by (is_some (table_named s name)) (length s.tables)) refl)

    comes : Comes (marked u) (start family u) (Settled C)
    comes =
        marking_comes C (lock ds tables mode.X) (λ _. marking scanning with_names) u (start family u)
        (lock_comes F ds tables mode.X u (start family u) (λ y a v. Comes (marking scanning with_names v) y (Settled C)) refl
        (λ v g reached. too_many back_ends u st family s sys u.locks reached within.locks (omega arith))
        (λ v g l. marking_comes C scanning with_names v (granted (start family u))
        (scan_comes F ds (dictionary_space tables_space) v (granted (start family u)) (λ y rows w. Comes (with_names rows w) y (Settled C)) (behind_names v g l))))

create_where : (name : List ℕ) (columns : List Column) (key : List ℕ) (names : List (List ℕ)) → IsName name → Each (λ (c : Column). IsName c.name) columns → 1 ≤ length names
    → PlanDoesWhere (λ s. Unit {0}) (statement.CreateTable name columns key names)
create_where name columns key names named each some =
    marked_does_where (λ s. Unit {0}) (statement.CreateTable name columns key names) (λ _. marked name columns key names) (λ back_ends u. forgets name columns key names back_ends u)
    (λ back_ends u family s _ few within sys. comes name columns key names named each some back_ends u family s few within sys)

pub create_table_rightly : (name : List ℕ) (columns : List Column) (key : List ℕ) (names : List (List ℕ)) → IsName name → Each (λ (c : Column). IsName c.name) columns → 1 ≤ length names
    → PlanDoes (statement.CreateTable name columns key names)
create_table_rightly name columns key names named each some back_ends u v calls r few within follows inside =
    let d = create_where name columns key names named each some back_ends u v calls r few within follows inside in (d.0, λ family s sys ans. d.1 family s tt sys ans)
