-- What the plan of an INSERT comes to.
use Rattle.std.proofs.Common.{◌≡◌, inl, inr, ℕ, ◌+◌, ◌≤◌, ◌<◌, ℤ, List, [], ◌∷◌, ◌++◌, length, map, Option, Some, None, Err, Ok, Bool, true, false, not, refl, subst, sym, ap, ◌∙◌, arith}
use Rattle.std.specs.Prelude.{option_map, unwrap_or, slice_get}
use Rattle.std.specs.Option.{option_or, option_to_list}
use Rattle.std.specs.List.{list_any, zip}
use Rattle.std.specs.Str.{bytes_eq}
use Rattle.std.proofs.lemmas.Option.{get_or_from_slice_get}
use Rattle.hb_types.specs.declared.change.Change.{Change}
use Rattle.hb_types.specs.declared.change.Stored.{Stored}
use Rattle.hb_types.specs.declared.entry.Entry.{Entry}
use Rattle.hb_types.specs.declared.entry.Entry.TheVariants.{At, Moving}
use Rattle.hb_types.specs.declared.lock.Mode.TheVariants as mode
use Rattle.hb_types.specs.declared.places.Path.TheVariants as path
use Rattle.hb_types.specs.declared.places.Place.{Place}
use Rattle.hb_types.specs.declared.value.Value.{Value}
use Rattle.hb_types.specs.Groups.{group_of, route, target}
use Rattle.hb_types.specs.Lists.{IsIn}
use Rattle.hb_types.specs.Records.{change_bytes}
use Rattle.hb_types.specs.Rows.{row_bytes}
use Rattle.hb_types.proofs.Ascending.{in_Each}
use Rattle.hb_model.specs.declared.reply.Reply.{Reply}
use Rattle.hb_model.specs.declared.reply.Reply.TheVariants as reply
use Rattle.hb_model.specs.declared.statement.Statement.{Statement}
use Rattle.hb_model.specs.declared.statement.Statement.TheVariants as statement
use Rattle.hb_model.specs.declared.table.Table.{Table}
use Rattle.hb_model.specs.Does.{effect, insert_in, with_rows}
use Rattle.hb_model.specs.Families.{Family}
use Rattle.hb_model.specs.Needs.{Need, in_area, locks_of, most_locks, no_rows, row_locks, route_of}
use Rattle.hb_model.specs.Refusals.{Effect, change_size, first_refusal, insert_refusals, is_outside, unless, values_typed}
use Rattle.hb_model.specs.Rows.{is_long, key_of, with_row}
use Rattle.hb_model.specs.Spots.{place_in}
use Rattle.hb_model.specs.State.{State, Spread, table_named, spread_named}
use Rattle.hb_model.specs.System.{Sys}
use Rattle.hb_model.specs.TableRows.{TableRows, along, has_key, row_of, standing}
use Rattle.hb_model.specs.Valid.{IsTable, FitsAll}
use Rattle.hb_talk.specs.Plans.{entry_under, insert_plan, lying_rows, putting, sizes, some_or, table_of, walking, with_lying, writes}
use Rattle.hb_talk.specs.PlansDefine.{plan}
use Rattle.hb_talk.specs.Talk.{Use, Planning, ◌>>=◌, ◌>>◌, pure, refuse}
use Rattle.hb_plancalc.specs.Counted.{IsWithin}
use Rattle.hb_planlaws.specs.Planned.{PlanDoes, PlanDoesWhere, most_back_ends}
use Rattle.hb_plancalc.proofs.Comes.{Stand, Comes, plans_bind}
use Rattle.hb_plancalc.proofs.Steps.{Goes, granted}
use Rattle.hb_planlaws.proofs.Ends.{at, ends_full, ends_refused, is_too_much, start}
use Rattle.hb_planlaws.proofs.KeyRows.{found, read_along, values_of}
use Rattle.hb_planlaws.proofs.LockPlan.{locks_found, locks_unfound, length-mapped, no_table_comes, table_comes}
use Rattle.hb_planlaws.proofs.Named.{find_holds, spread_there}
use Rattle.hb_planlaws.proofs.Told.{no_table_told, table_told}
use Rattle.hb_planlaws.proofs.Walks.{entry_comes, entry_there, entry_told, walking_comes}
use Rattle.hb_planwrites.proofs.Closing.{Closed, closed_too_much, closed_written, ended_closed, marked_does_where, sizes_more, writes_come}
use Rattle.hb_planwrites.proofs.KeyWrites.{IsBackEnd, after, entry_apart, key_aside, key_changed, route_on_back_ends}
use Rattle.hb_planwrites.proofs.Marks.{Marked, Settled, forget_last, forget_marking, last, last_comes, marking, marking_comes, unmarked}
use Rattle.hb_planwrites.proofs.RowsPut.{any_found, none_found, other_row, own_row, put_ascends, put_each, values_fit}
use Rattle.hb_planwrites.proofs.Systems.{sys_after}

-- ---- refusals

abbrev four : Bool → Bool → Bool → Bool → Option Reply
four a b c k = first_refusal ((a, reply.WrongType) ∷ (b, reply.Overflow) ∷ (c, reply.TooLong) ∷ (k, reply.KeyTaken) ∷ [])

four_early : (a b c k : Bool) (r : Reply) → four a b c false ≡ Some r → four a b c k ≡ Some r
four_early true b c k r h = h
four_early false true c k r h = h
four_early false false true k r h = h
four_early false false false k r h = cc

record NoneOf (a b c k : Bool) : Type 0 where
  typed : a ≡ false
  inside : b ≡ false
  short : c ≡ false
  free : k ≡ false

four_free : (a b c k : Bool) → four a b c k ≡ None → NoneOf a b c k
four_free true b c k h = cc
four_free false true c k h = cc
four_free false false true k h = cc
four_free false false false true h = cc
four_free false false false false h = record { typed = refl; inside = refl; short = refl; free = refl }

four_other : (a b c k : Bool) (r : Reply) → four a b c k ≡ Some r → is_too_much r ≡ false
four_other true b c k r h = let same : reply.WrongType ≡ r = cc in subst (λ x. is_too_much x ≡ false) same refl
four_other false true c k r h = let same : reply.Overflow ≡ r = cc in subst (λ x. is_too_much x ≡ false) same refl
four_other false false true k r h = let same : reply.TooLong ≡ r = cc in subst (λ x. is_too_much x ≡ false) same refl
four_other false false false true r h = let same : reply.KeyTaken ≡ r = cc in subst (λ x. is_too_much x ≡ false) same refl
four_other false false false false r h = cc

module _ (t : Table) (values : List Value) where
  abbrev refusal_if : Bool → Option Reply
  refusal_if taken = four (not (values_typed t values)) (list_any is_outside values) (list_any (λ p. is_long p.0.size p.1) (zip t.columns values)) taken

  abbrev refusal_of : Option Reply
  refusal_of = first_refusal (insert_refusals t values)

  refused_early : (r : Reply) → first_refusal (insert_refusals (no_rows t) values) ≡ Some r → refusal_of ≡ Some r
  refused_early r h = four_early _ _ _ (list_any (has_key t (key_of t values)) t.rows) r h

  refusal_other : (r : Reply) → refusal_of ≡ Some r → is_too_much r ≡ false
  refusal_other r h = four_other _ _ _ (list_any (has_key t (key_of t values)) t.rows) r h

  unrefused : refusal_of ≡ None → NoneOf (not (values_typed t values)) (list_any is_outside values) (list_any (λ p. is_long p.0.size p.1) (zip t.columns values)) (list_any (has_key t (key_of t values)) t.rows)
  unrefused h = four_free _ _ _ _ h

  -- the row of the key tells as much as all rows
  refusals_by_key : first_refusal (insert_refusals (record t { rows = option_to_list (row_of t (key_of t values)) }) values) ≡ refusal_of
  refusals_by_key = ap refusal_if (any_found (has_key t (key_of t values)) t.rows)

-- ---- bytes

put_size : (place : Place) (values : List Value) → length (change_bytes (putting place values)) ≡ change_size values
put_size place values = omega arith

-- ---- a key that nothing has

append_none : {A : Type 0} (xs : List A) → xs ++ [] ≡ xs
append_none [] = refl
append_none (x ∷ xs) = ap (λ ys. x ∷ ys) (append_none xs)

neither : (o p : Option (List ℕ)) → option_or o p ≡ None → (o ≡ None) × (p ≡ None)
neither None p h = (refl, h)
neither (Some x) p h = cc

none_along : (family : Family) (number : ℕ) (key : ℤ) (areas : List ℕ) → along family number key areas ≡ None → (b : ℕ) → IsIn b areas → standing family number key b ≡ None
none_along family number key [] h b i = absurd i
none_along family number key (a ∷ more) h b (inl e) =
    subst (λ x. standing family number key x ≡ None) e (neither (standing family number key a) (along family number key more) h).0
none_along family number key (a ∷ more) h b (inr i) = none_along family number key more (neither (standing family number key a) (along family number key more) h).1 b i

target_on : (e : Entry) → IsIn (target e) (route e)
target_on (At a) = inl refl
target_on (Moving a b) = inr (inl refl)

-- ---- the plan with its marks

abbrev ending : ℕ → ℤ → List Value → Entry → Planning Reply
ending table key values e = writes (putting (place_in (target e) table key) values ∷ []) >> pure reply.Inserted

abbrev answered : ℕ → Table → ℤ → List Value → Entry → List Stored → Marked Reply
answered table t key values e rows = marking (refuse (first_refusal (insert_refusals (with_lying t (lying_rows rows)) values))) (λ _. last (ending table key values e))

abbrev routed : ℕ → Table → ℤ → List Value → Entry → Marked Reply
routed table t key values e = marking (walking mode.X table key (route e) []) (answered table t key values e)

abbrev entered : ℕ → Table → ℤ → List Value → Option Entry → Marked Reply
entered table t key values entry = marking (some_or reply.NoArea entry) (routed table t key values)

abbrev named : List Value → ℕ × Table → Marked Reply
named values f =
    marking (refuse (first_refusal (insert_refusals f.1 values))) (λ _. marking (entry_under mode.S f.0 (group_of (key_of f.1 values))) (entered f.0 f.1 (key_of f.1 values) values))

abbrev marked : List ℕ → List Value → Marked Reply
marked name values = marking (table_of name) (named values)

-- without them it is the plan
abbrev answering : ℕ → Table → ℤ → List Value → Entry → List Stored → Planning Reply
answering table t key values e rows = refuse (first_refusal (insert_refusals (with_lying t (lying_rows rows)) values)) >> ending table key values e

forgets_answered : (table : ℕ) (t : Table) (key : ℤ) (values : List Value) (e : Entry) (rows : List Stored) (u : Use)
    → unmarked (answered table t key values e rows u) ≡ answering table t key values e rows u
forgets_answered table t key values e rows u =
    forget_marking (refuse (first_refusal (insert_refusals (with_lying t (lying_rows rows)) values))) (λ _. last (ending table key values e)) (λ _. ending table key values e)
    (λ _ v. forget_last (ending table key values e) v) u

abbrev routing : ℕ → Table → ℤ → List Value → Entry → Planning Reply
routing table t key values e = walking mode.X table key (route e) [] >>= answering table t key values e

forgets_routed : (table : ℕ) (t : Table) (key : ℤ) (values : List Value) (e : Entry) (u : Use) → unmarked (routed table t key values e u) ≡ routing table t key values e u
forgets_routed table t key values e u =
    forget_marking (walking mode.X table key (route e) []) (answered table t key values e) (answering table t key values e) (forgets_answered table t key values e) u

abbrev entering : ℕ → Table → ℤ → List Value → Option Entry → Planning Reply
entering table t key values entry = some_or reply.NoArea entry >>= routing table t key values

forgets_entered : (table : ℕ) (t : Table) (key : ℤ) (values : List Value) (entry : Option Entry) (u : Use) → unmarked (entered table t key values entry u) ≡ entering table t key values entry u
forgets_entered table t key values entry u =
    forget_marking (some_or reply.NoArea entry) (routed table t key values) (routing table t key values) (forgets_routed table t key values) u

abbrev naming : List Value → ℕ × Table → Planning Reply
naming values f =
    refuse (first_refusal (insert_refusals f.1 values)) >> (entry_under mode.S f.0 (group_of (key_of f.1 values)) >>= entering f.0 f.1 (key_of f.1 values) values)

forgets_named : (values : List Value) (f : ℕ × Table) (u : Use) → unmarked (named values f u) ≡ naming values f u
forgets_named values f u =
    let key = key_of f.1 values in
    let under : Planning (Option Entry) = entry_under mode.S f.0 (group_of key) in
    forget_marking (refuse (first_refusal (insert_refusals f.1 values))) (λ _. marking under (entered f.0 f.1 key values)) (λ _. under >>= entering f.0 f.1 key values)
    (λ _ v. forget_marking under (entered f.0 f.1 key values) (entering f.0 f.1 key values) (forgets_entered f.0 f.1 key values) v) u

forgets : (name : List ℕ) (values : List Value) (u : Use) → unmarked (marked name values u) ≡ insert_plan name values u
forgets name values u = forget_marking (table_of name) (named values) (naming values) (forgets_named values) u

-- ---- INSERT

module _ (name : List ℕ) (values : List Value) where
  abbrev st : Statement
  st = statement.Insert name values

  effect_some : (back_ends : ℕ) (s : State) (t : Table) → table_named s name ≡ Some t → effect back_ends s st ≡ insert_in s values t
  unfolding effect
  effect_some back_ends s t is = ap (λ o. unwrap_or (option_map (insert_in s values) o) (Err reply.NoTable)) is

  effect_none : (back_ends : ℕ) (s : State) → table_named s name ≡ None → effect back_ends s st ≡ Err reply.NoTable
  unfolding effect
  effect_none back_ends s none = ap (λ o. unwrap_or (option_map (insert_in s values) o) (Err reply.NoTable)) none

  module _ (back_ends : ℕ) (u : Use) (family : Family) (s : State) (few : back_ends ≤ most_back_ends) (within : IsWithin u) (sys : Sys back_ends family s) where
    abbrev C : Bool → Stand → Reply → Type 0
    C = Closed back_ends u st s

    abbrev F : Stand → Reply → Use → Type 0
    F z e v = C (is_too_much e) z e

    too_many : (n : ℕ) → most_locks ≤ n → n ≤ most_locks → n < u.locks + locks_of s st → C true (at family n) reply.TooMuch
    too_many n reached low more = ended_closed back_ends u st family s sys (at family n) reply.TooMuch (ends_full back_ends u st family s n reached low more)

    refused_at : (n : ℕ) (r : Reply) → effect back_ends s st ≡ Err r → is_too_much r ≡ false → n ≤ most_locks → n ≤ u.locks + locks_of s st → C (is_too_much r) (at family n) r
    refused_at n r e other low less = ended_closed back_ends u st family s sys (at family n) r (ends_refused back_ends u st family s n r e other low less)

    unfound : table_named s name ≡ None → Comes (marked name values u) (start family u) (Settled C)
    unfound none =
        let one : locks_of s st ≡ 1 = locks_unfound s name mode.X (λ t. Some (key_of t values)) none in
        marking_comes C (table_of name) (named values) u (start family u)
        (no_table_comes F name u (start family u) _ refl (λ v g reached. too_many u.locks reached within.locks (omega (arith, one)))
        (no_table_told back_ends family s sys name none)
        (λ v g l. refused_at (u.locks + 1) reply.NoTable (effect_none back_ends s none) refl (omega (arith, l)) (omega (arith, one))))

    module _ (t : Table) (p : Spread) (is : table_named s name ≡ Some t) (there : spread_named s name ≡ Some p) where
      abbrev key : ℤ
      key = key_of t values

      at_spread : IsIn p s.layout.spreads
      at_spread = (find_holds (λ (q : Spread). bytes_eq q.name name) s.layout.spreads p there).1

      at_table : IsIn t s.tables
      at_table = (find_holds (λ (x : Table). bytes_eq x.name name) s.tables t is).1

      fits : IsTable t
      fits = in_Each IsTable t s.tables at_table sys.state.tables

      rows : TableRows family t p
      rows = sys.tables name t p is there

      abbrev done : Effect
      done = record { state = with_rows s t (with_row t values); reply = reply.Inserted; bytes = change_size values }

      refused_effect : (r : Reply) → first_refusal (insert_refusals t values) ≡ Some r → effect back_ends s st ≡ Err r
      refused_effect r h = effect_some back_ends s t is ∙ ap (λ o. unless o done) h

      done_effect : first_refusal (insert_refusals t values) ≡ None → effect back_ends s st ≡ Ok done
      done_effect h = effect_some back_ends s t is ∙ ap (λ o. unless o done) h

      module _ (e : Entry) (entry : slice_get p.entries (group_of key) ≡ Some e) where
        total : locks_of s st ≡ 2 + length (route e)
        total =
            let all : locks_of s st ≡ 1 + length (row_locks mode.X p (Some key)) = locks_found s name mode.X (λ x. Some (key_of x values)) t p is there in
            let f : ℕ → Need = λ a. in_area a (path.Key (place_in a p.number key)) mode.X in
            let same : route_of p key ≡ route e = ap route (get_or_from_slice_get p.entries (group_of key) e (At 0) entry) in
            let mapped : length (map f (route_of p key)) ≡ length (route_of p key) = length-mapped f (route_of p key) in
            let routed : length (route_of p key) ≡ length (route e) = ap length same in
            omega (arith, all, mapped, routed)

        -- the Write leaves a system
        left : first_refusal (insert_refusals t values) ≡ None
            → Sys back_ends (after family p key e entry (entry_apart back_ends family s sys p at_spread (group_of key) e entry) (target e) (target_on e)
            (in_Each (IsBackEnd family) (target e) (route e) (target_on e) (route_on_back_ends back_ends family s sys p at_spread (group_of key) e entry)) (Some (row_bytes values)))
            (with_rows s t (with_row t values))
        left h =
            let none = unrefused t values h in
            let apart = entry_apart back_ends family s sys p at_spread (group_of key) e entry in
            let back_end = in_Each (IsBackEnd family) (target e) (route e) (target_on e) (route_on_back_ends back_ends family s sys p at_spread (group_of key) e entry) in
            let absent : row_of t key ≡ None = none_found (has_key t key) t.rows none.free in
            let empty : along family p.number key (route e) ≡ None = rows.same key e entry ∙ ap (option_map row_bytes) absent in
            sys_after back_ends family _ s sys name t p is there (with_row t values)
            (key_aside family p key e entry apart (target e) (target_on e) back_end (Some (row_bytes values)))
            (key_changed family p key e entry apart (target e) (target_on e) back_end (Some (row_bytes values)) (λ b i n. none_along family p.number key (route e) empty b i)
            t (record t { rows = with_row t values }) rows (sym (ap (option_map row_bytes) (own_row t values))) (λ j n. other_row t values j n))
            (put_ascends t values fits.rows_ascend) (put_each t values (FitsAll t.columns) (values_fit t values none.typed none.inside none.short) fits.rows_fit)

        writes_row : (v : Use) (n : ℕ) → v.bytes ≡ u.bytes → n ≤ most_locks → n ≡ u.locks + locks_of s st → first_refusal (insert_refusals t values) ≡ None
            → Comes (last (ending p.number key values e) v) (at family n) (Settled C)
        writes_row v n even low all h =
            let c : Change = putting (place_in (target e) p.number key) values in
            let size : sizes (c ∷ []) ≡ change_size values = (let more = sizes_more c [] in let one = put_size (place_in (target e) p.number key) values in omega (arith, more, one)) in
            last_comes C (ending p.number key values e) v (at family n)
            (plans_bind (writes (c ∷ [])) (λ _. pure reply.Inserted) v (at family n) (λ y r w. C false y r) (λ y r w. C false y r)
            (writes_come (λ y r w. C false y r) (c ∷ []) v (at family n) (λ y a w. C false y reply.Inserted)
            (λ w l. closed_written back_ends u st family s sys done _ (done_effect h) (omega (arith, l, even, size)) (left h) (omega (arith, size)) all low)
            (λ w l. closed_too_much back_ends u st family s sys done n (done_effect h) (omega (arith, l, even, size)) all low)))

        -- the rows that were read tell the refusal
        answers : (v : Use) (n : ℕ) → v.bytes ≡ u.bytes → n ≤ most_locks → n ≡ u.locks + locks_of s st → (o : Option Reply) → first_refusal (insert_refusals t values) ≡ o
            → Comes (marking (refuse o) (λ _. last (ending p.number key values e)) v) (at family n) (Settled C)
        answers v n even low all None h = writes_row v n even low all h
        answers v n even low all (Some r) h = λ x. refused_at n r (refused_effect r h) (refusal_other t values r h) low (omega (arith, all))

        -- behind the entry
        walks : (v : Use) → v.locks ≡ (u.locks + 1) + 1 → v.bytes ≡ u.bytes → u.locks + 1 < most_locks
            → Comes (routed p.number (no_rows t) key values e v) (at family ((u.locks + 1) + 1)) (Settled C)
        walks v even bytes low =
            let z : Stand = at family ((u.locks + 1) + 1) in
            let read : values_of (found family p.number key (route e)) ≡ option_to_list (row_of t key) = read_along family t p fits rows key e entry in
            let same : first_refusal (insert_refusals (with_lying (no_rows t) (lying_rows (found family p.number key (route e)))) values) ≡ first_refusal (insert_refusals t values) =
            ap (λ rs. first_refusal (insert_refusals (record t { rows = rs }) values)) read ∙ refusals_by_key t values in
            marking_comes C (walking mode.X p.number key (route e) []) (answered p.number (no_rows t) key values e) v z
            (walking_comes F mode.X p.number key (route e) [] v z (λ y r x. Comes (answered p.number (no_rows t) key values e r x) y (Settled C)) even (omega (arith, low))
            (λ x n i j l. too_many n (omega (arith, l)) (omega (arith, l)) (omega (arith, j, total)))
            (λ x i l. subst (λ o. Comes (marking (refuse o) (λ _. last (ending p.number key values e)) x) (at family (z.locks + length (route e))) (Settled C)) (sym same)
            (answers x (z.locks + length (route e)) (i.bytes ∙ bytes) l (omega (arith, total)) (first_refusal (insert_refusals t values)) refl)))

        -- behind the name of the table
        behind : (v : Use) → Goes u v (u.locks + 1) → u.locks < most_locks → (o : Option Reply) → first_refusal (insert_refusals (no_rows t) values) ≡ o
            → Comes (marking (refuse o) (λ _. marking (entry_under mode.S p.number (group_of key)) (entered p.number (no_rows t) key values)) v) (at family (u.locks + 1)) (Settled C)
        behind v g low (Some r) h =
            λ x. let late = refused_early t values r h in
            refused_at (u.locks + 1) r (refused_effect r late) (refusal_other t values r late) (omega (arith, low)) (omega (arith, total))
        behind v g low None h =
            let z : Stand = at family (u.locks + 1) in
            marking_comes C (entry_under mode.S p.number (group_of key)) (entered p.number (no_rows t) key values) v z
            (entry_comes F mode.S p.number (group_of key) v z (λ y o x. Comes (entered p.number (no_rows t) key values o x) y (Settled C)) g.locks
            (λ x i reached. too_many (u.locks + 1) reached (omega (arith, low)) (omega (arith, total)))
            (λ x i l. subst (λ o. Comes (entered p.number (no_rows t) key values o x) (granted z) (Settled C)) (sym (entry_told back_ends family s sys few p at_spread (group_of key) e entry))
            (walks x i.locks (i.bytes ∙ g.bytes) (omega (arith, l)))))

    comes : (o : Option Table) → table_named s name ≡ o → Comes (marked name values u) (start family u) (Settled C)
    comes None none = unfound none
    comes (Some t) is =
        let p = spread_there back_ends s sys.state name t is in
        let e = entry_there back_ends family s sys few p.0 (at_spread t p.0 is p.1) (key_of t values) in
        marking_comes C (table_of name) (named values) u (start family u)
        (table_comes F name u (start family u) _ refl
        (λ v g reached. too_many u.locks reached within.locks (let all = total t p.0 is p.1 e.0 e.1 in omega (arith, all)))
        (p.0.number, no_rows t) (table_told back_ends family s sys name t p.0 is p.1)
        (λ v g l. behind t p.0 is p.1 e.0 e.1 v g l (first_refusal (insert_refusals (no_rows t) values)) refl))

insert_forgets : (name : List ℕ) (values : List Value) (back_ends : ℕ) (u : Use) → unmarked (marked name values u) ≡ plan back_ends (statement.Insert name values) u
unfolding plan
insert_forgets name values back_ends u = forgets name values u

insert_rightly_where : (name : List ℕ) (values : List Value) → PlanDoesWhere (λ s. Unit {0}) (statement.Insert name values)
insert_rightly_where name values = marked_does_where (λ s. Unit {0}) (statement.Insert name values) (λ b. marked name values) (insert_forgets name values)
    (λ back_ends u family s _ few within sys. comes name values back_ends u family s few within sys (table_named s name) refl)

pub insert_rightly : (name : List ℕ) (values : List Value) → PlanDoes (statement.Insert name values)
insert_rightly name values back_ends u v calls r few within follows inside =
    let d = insert_rightly_where name values back_ends u v calls r few within follows inside in
    (d.0, λ family s sys ans. d.1 family s tt sys ans)
