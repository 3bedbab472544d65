-- What the plan of a SELECT of one key comes to.
use Rattle.std.proofs.Common.{◌≡◌, ℕ, ◌+◌, ◌≤◌, ◌<◌, ℤ, List, [], ◌∷◌, ◌++◌, length, map, Option, Some, None, Err, Bool, true, false, not, refl, subst, sym, ap, ◌∙◌, arith}
use Rattle.std.specs.Prelude.{IsSome, ◌&&◌, ◌||◌, filter, flat_map, is_none, option_map, unwrap_or, slice_get}
use Rattle.std.specs.Option.{option_to_list}
use Rattle.std.specs.List.{list_any}
use Rattle.std.specs.Str.{bytes_eq}
use Rattle.std.proofs.lemmas.Bool.{false≢true}
use Rattle.std.proofs.lemmas.Option.{get_or_from_slice_get}
use Rattle.hb_types.specs.declared.change.Stored.{Stored}
use Rattle.hb_types.specs.declared.entry.Entry.{Entry}
use Rattle.hb_types.specs.declared.entry.Entry.TheVariants.{At}
use Rattle.hb_types.specs.declared.lock.Mode.TheVariants as mode
use Rattle.hb_types.specs.declared.places.Path.TheVariants as path
use Rattle.hb_types.specs.declared.value.Value.{Value}
use Rattle.hb_types.specs.Groups.{group_of, route}
use Rattle.hb_types.specs.Lists.{IsIn}
use Rattle.hb_types.proofs.Ascending.{in_Each}
use Rattle.hb_model.specs.declared.condition.Pred.{Pred}
use Rattle.hb_model.specs.declared.reply.Reply.{Reply}
use Rattle.hb_model.specs.declared.reply.Reply.TheVariants as reply
use Rattle.hb_model.specs.declared.statement.Statement.{Statement}
use Rattle.hb_model.specs.declared.statement.Statement.TheVariants as statement
use Rattle.hb_model.specs.declared.statement.What.{What}
use Rattle.hb_model.specs.declared.statement.What.TheVariants as what
use Rattle.hb_model.specs.declared.table.Table.{Table}
use Rattle.hb_model.specs.Does.{effect, reads, select_in}
use Rattle.hb_model.specs.Families.{Family}
use Rattle.hb_model.specs.Kinds.{names_in_pred}
use Rattle.hb_model.specs.Needs.{Need, in_area, locks_of, most_locks, no_rows, row_locks, route_of}
use Rattle.hb_model.specs.Refusals.{first_refusal, is_unknown, pred_typed, select_refusals, unless, what_names, what_typed}
use Rattle.hb_model.specs.Rows.{chosen, is_keyed, outside, overflows, point, shown}
use Rattle.hb_model.specs.Spots.{place_in}
use Rattle.hb_model.specs.State.{State, Spread, table_named, spread_named}
use Rattle.hb_model.specs.System.{Sys}
use Rattle.hb_model.specs.TableRows.{has_key}
use Rattle.hb_model.specs.Valid.{IsTable}
use Rattle.hb_model.specs.Values.{holds_at}
use Rattle.hb_talk.specs.Plans.{considered, entry_under, lying_rows, select_plan, table_of, walking, with_lying}
use Rattle.hb_talk.specs.PlansDefine.{plan}
use Rattle.hb_talk.specs.Talk.{Use, Planning, ◌>>=◌, ◌>>◌, pure, refuse}
use Rattle.hb_plancalc.specs.Counted.{IsWithin}
use Rattle.hb_planlaws.specs.Planned.{IsByKey, PlanDoesWhere, most_back_ends}
use Rattle.hb_plancalc.proofs.Comes.{Stand, Plans, plans_bind}
use Rattle.hb_planlaws.proofs.Ends.{Ended, at, ends_done, ends_does_where, ends_full, ends_refused, is_too_much, start}
use Rattle.hb_planlaws.proofs.KeyRows.{any_among, filter_among, found, one_of_key, read_along, values_of}
use Rattle.hb_planlaws.proofs.LockPlan.{locks_found, locks_unfound, length-mapped, no_table_comes, table_comes}
use Rattle.hb_planlaws.proofs.Named.{find_holds, spread_there}
use Rattle.hb_plancalc.proofs.Steps.{Goes, granted}
use Rattle.hb_planlaws.proofs.Told.{no_table_told, table_told}
use Rattle.hb_planlaws.proofs.Walks.{entry_comes, entry_there, entry_told, walking_comes}

-- ---- what a SELECT sees of a table

abbrev only : Table → List (List Value) → Table
only t rows = record t { rows = rows }

-- the refusals, given whether a number overflows
abbrev refusals_with : Table → What → Pred → Bool → List (Bool × Reply)
refusals_with t w pd b =
    (list_any (is_unknown t) (what_names w ++ names_in_pred pd), reply.NoColumn)
    ∷ (not (what_typed t w && pred_typed t (Some pd)), reply.WrongType)
    ∷ (b, reply.Overflow)
    ∷ []

refusals_only : (t : Table) (w : What) (pd : Pred) (rows : List (List Value)) → select_refusals (only t rows) w (Some pd) ≡ refusals_with t w pd (overflows (only t rows) (Some pd))
refusals_only t what.All pd rows = refl
refusals_only t (what.Names names) pd rows = refl
refusals_only t what.Count pd rows = refl
refusals_only t (what.Sum name) pd rows = refl

shown_only : (t : Table) (w : What) (rows chosen_rows : List (List Value)) → shown (only t rows) w chosen_rows ≡ shown t w chosen_rows
shown_only t what.All rows xs = refl
shown_only t (what.Names names) rows xs = refl
shown_only t what.Count rows xs = refl
shown_only t (what.Sum name) rows xs = refl

module _ (t : Table) (pd : Pred) (key : ℤ) (by_key : point t (Some pd) ≡ Some key) where
  abbrev rows : List (List Value)
  rows = filter (has_key t key) t.rows

  abbrev overflows_by : Table → Option ℤ → Bool
  overflows_by x o = outside o || list_any (λ row. is_keyed x o row && is_none (holds_at t.columns row pd)) x.rows

  overflows_same : overflows (only t rows) (Some pd) ≡ overflows t (Some pd)
  overflows_same =
      ap (overflows_by (only t rows)) by_key
      ∙ ap (λ b. outside (Some key) || b) (any_among (has_key t key) (λ row. is_none (holds_at t.columns row pd)) t.rows)
      ∙ sym (ap (overflows_by t) by_key)

  abbrev chosen_by : Table → Option ℤ → List (List Value)
  chosen_by x o = filter (λ row. is_keyed x o row && unwrap_or (holds_at t.columns row pd) false) x.rows

  chosen_same : chosen (only t rows) (Some pd) ≡ chosen t (Some pd)
  chosen_same =
      ap (chosen_by (only t rows)) by_key ∙ filter_among (has_key t key) (λ row. unwrap_or (holds_at t.columns row pd) false) t.rows ∙ sym (ap (chosen_by t) by_key)

  refusals_same : (w : What) → select_refusals (only t rows) w (Some pd) ≡ select_refusals t w (Some pd)
  refusals_same w = refusals_only t w pd rows ∙ ap (refusals_with t w pd) overflows_same

  shown_same : (w : What) → shown (only t rows) w (chosen (only t rows) (Some pd)) ≡ shown t w (chosen t (Some pd))
  shown_same w = shown_only t w rows (chosen (only t rows) (Some pd)) ∙ ap (shown t w) chosen_same

-- ---- refusals

still : (a b c d : Bool) (x y z r : Reply) → (c ≡ true → d ≡ true) → first_refusal ((a, x) ∷ (b, y) ∷ (c, z) ∷ []) ≡ Some r → first_refusal ((a, x) ∷ (b, y) ∷ (d, z) ∷ []) ≡ Some r
still true b c d x y z r h e = e
still false true c d x y z r h e = e
still false false true d x y z r h e = rw (h refl) e
still false false false d x y z r h e = cc

or_more : (a b : Bool) → (a || false) ≡ true → (a || b) ≡ true
or_more true b e = refl
or_more false b e = absurd (false≢true e)

-- what is refused without rows is refused with them
refused_early : (t : Table) (w : What) (pd : Pred) (r : Reply) → first_refusal (select_refusals (no_rows t) w (Some pd)) ≡ Some r → first_refusal (select_refusals t w (Some pd)) ≡ Some r
refused_early t w pd r e =
    still (list_any (is_unknown t) (what_names w ++ names_in_pred pd)) (not (what_typed t w && pred_typed t (Some pd))) (overflows (no_rows t) (Some pd)) (overflows t (Some pd))
    reply.NoColumn reply.WrongType reply.Overflow r (λ h. or_more (outside (point t (Some pd))) _ h) (ap first_refusal (sym (refusals_only t w pd [])) ∙ e)

not_too_much : (a b c : Bool) (r : Reply) → first_refusal ((a, reply.NoColumn) ∷ (b, reply.WrongType) ∷ (c, reply.Overflow) ∷ []) ≡ Some r → is_too_much r ≡ false
not_too_much true b c r e = let same : reply.NoColumn ≡ r = cc in subst (λ x. is_too_much x ≡ false) same refl
not_too_much false true c r e = let same : reply.WrongType ≡ r = cc in subst (λ x. is_too_much x ≡ false) same refl
not_too_much false false true r e = let same : reply.Overflow ≡ r = cc in subst (λ x. is_too_much x ≡ false) same refl
not_too_much false false false r e = cc

refusal_other : (t : Table) (w : What) (pd : Pred) (r : Reply) → first_refusal (select_refusals t w (Some pd)) ≡ Some r → is_too_much r ≡ false
refusal_other t w pd r e =
    not_too_much (list_any (is_unknown t) (what_names w ++ names_in_pred pd)) (not (what_typed t w && pred_typed t (Some pd))) (overflows t (Some pd)) r e

-- ---- SELECT of one key

pub key_there : (o : Option ℤ) → IsSome o → (key : ℤ) × (o ≡ Some key)
key_there None h = absurd (false≢true h)
key_there (Some key) h = (key, refl)

append_none : (xs : List ℕ) → xs ++ [] ≡ xs
append_none [] = refl
append_none (x ∷ xs) = ap (λ ys. x ∷ ys) (append_none xs)

module _ (w : What) (name : List ℕ) (pd : Pred) where
  abbrev st : Statement
  st = statement.Select w name (Some pd)

  effect_some : (back_ends : ℕ) (s : State) (t : Table) → table_named s name ≡ Some t → effect back_ends s st ≡ select_in s w (Some pd) t
  unfolding effect
  effect_some back_ends s t is = ap (λ o. unwrap_or (option_map (select_in s w (Some pd)) o) (Err reply.NoTable)) is

  effect_none : (back_ends : ℕ) (s : State) → table_named s name ≡ None → effect back_ends s st ≡ Err reply.NoTable
  unfolding effect
  effect_none back_ends s none = ap (λ o. unwrap_or (option_map (select_in s w (Some pd)) o) (Err reply.NoTable)) none

  -- what follows the rows that were read
  abbrev answered : Table → Planning Reply
  answered t = refuse (first_refusal (select_refusals t w (Some pd))) >> pure (reply.Rows (shown t w (chosen t (Some pd))))

  module _ (back_ends : ℕ) (u : Use) (family : Family) (s : State) (few : back_ends ≤ most_back_ends) (within : IsWithin u) (sys : Sys back_ends family s) where
    abbrev E : Stand → Reply → Type 0
    E z r = Ended back_ends u st family s z r

    abbrev F : Stand → Reply → Use → Type 0
    F z e v = E z e

    abbrev Q : Stand → Reply → Use → Type 0
    Q z r v = E z r

    too_many : (n : ℕ) → most_locks ≤ n → n ≤ most_locks → n < u.locks + locks_of s st → E (at family n) reply.TooMuch
    too_many n reached low more = ends_full back_ends u st family s n reached low more

    unfound : table_named s name ≡ None → Plans (select_plan name w (Some pd)) u (start family u) Q F
    unfound none =
        let one : locks_of s st ≡ 1 = locks_unfound s name mode.S (λ t. point t (Some pd)) none in
        plans_bind (table_of name) _ u (start family u) Q F
        (no_table_comes F name u (start family u) _ refl (λ v g reached. too_many u.locks reached within.locks (omega (arith, one)))
        (no_table_told back_ends family s sys name none)
        (λ v g l. ends_refused back_ends u st family s (u.locks + 1) reply.NoTable (effect_none back_ends s none) refl (omega (arith, l)) (omega (arith, one))))

    module _ (t : Table) (p : Spread) (is : table_named s name ≡ Some t) (there : spread_named s name ≡ Some p) (key : ℤ) (by_key : point t (Some pd) ≡ Some key) where
      at_spread : IsIn p s.layout.spreads
      at_spread = (find_holds (λ (q : Spread). bytes_eq q.name name) s.layout.spreads p there).1

      -- the rows that were read tell the reply
      answers : (v : Use) (n : ℕ) → n ≤ most_locks → n ≡ u.locks + locks_of s st → (o : Option Reply) → first_refusal (select_refusals t w (Some pd)) ≡ o
          → Plans (refuse o >> pure (reply.Rows (shown t w (chosen t (Some pd))))) v (at family n) Q F
      answers v n low all None e =
          ends_done back_ends u st family s n (reply.Rows (shown t w (chosen t (Some pd))))
          (effect_some back_ends s t is ∙ ap (λ o. unless o (reads s (reply.Rows (shown t w (chosen t (Some pd)))))) e) refl within.bytes low all
      answers v n low all (Some r) e =
          λ x. ends_refused back_ends u st family s n r (effect_some back_ends s t is ∙ ap (λ o. unless o (reads s (reply.Rows (shown t w (chosen t (Some pd)))))) e)
          (refusal_other t w pd r e) low (omega (arith, all))

      answers_of_key : (v : Use) (n : ℕ) → n ≤ most_locks → n ≡ u.locks + locks_of s st → Plans (answered (only t (filter (has_key t key) t.rows))) v (at family n) Q F
      answers_of_key v n low all =
          subst (λ o. Plans (refuse o >> pure (reply.Rows (shown (only t (filter (has_key t key) t.rows)) w (chosen (only t (filter (has_key t key) t.rows)) (Some pd))))) v (at family n) Q F)
          (sym (ap first_refusal (refusals_same t pd key by_key w)))
          (subst (λ rows. Plans (refuse (first_refusal (select_refusals t w (Some pd))) >> pure (reply.Rows rows)) v (at family n) Q F) (sym (shown_same t pd key by_key w))
          (answers v n low all (first_refusal (select_refusals t w (Some pd))) refl))

      module _ (e : Entry) (entry : slice_get p.entries (group_of key) ≡ Some e) where
        total : locks_of s st ≡ 2 + length (route e)
        total =
            let all : locks_of s st ≡ 1 + length (row_locks mode.S p (point t (Some pd))) = locks_found s name mode.S (λ x. point x (Some pd)) t p is there in
            let keyed : length (row_locks mode.S p (point t (Some pd))) ≡ length (row_locks mode.S p (Some key)) = ap (λ o. length (row_locks mode.S p o)) by_key in
            let f : ℕ → Need = λ a. in_area a (path.Key (place_in a p.number key)) mode.S in
            let same : route_of p key ≡ route e = ap route (get_or_from_slice_get p.entries (group_of key) e (At 0) entry) in
            let mapped : length (map f (route_of p key)) ≡ length (route_of p key) = length-mapped f (route_of p key) in
            let routed : length (route_of p key) ≡ length (route e) = ap length same in
            omega (arith, all, keyed, mapped, routed)

        -- behind the entry
        walks : (v : Use) → v.locks ≡ (u.locks + 1) + 1 → u.locks + 1 < most_locks
            → Plans (walking mode.S p.number key (route e ++ []) []) v (at family ((u.locks + 1) + 1)) (λ y rows x. Plans (answered (with_lying (no_rows t) (lying_rows rows))) x y Q F) F
        walks v even low =
            let z : Stand = at family ((u.locks + 1) + 1) in
            let fits : IsTable t = in_Each IsTable t s.tables (find_holds (λ (x : Table). bytes_eq x.name name) s.tables t is).1 sys.state.tables in
            let ends : List Stored → Planning Reply = λ rows. answered (with_lying (no_rows t) (lying_rows rows)) in
            let rows : values_of (found family p.number key (route e)) ≡ filter (has_key t key) t.rows =
            read_along family t p fits (sys.tables name t p is there) key e entry ∙ sym (one_of_key t key t.rows fits.rows_ascend) in
            subst (λ areas. Plans (walking mode.S p.number key areas []) v z (λ y r x. Plans (ends r) x y Q F) F) (sym (append_none (route e)))
            (walking_comes F mode.S p.number key (route e) [] v z (λ y r x. Plans (ends r) x y Q F) even (omega (arith, low))
            (λ x n i j l. too_many n (omega (arith, l)) (omega (arith, l)) (omega (arith, j, total)))
            (λ x i l. subst (λ rs. Plans (answered (only t rs)) x (at family (z.locks + length (route e))) Q F) (sym rows)
            (answers_of_key x (z.locks + length (route e)) l (omega (arith, total)))))

        -- behind the name of the table
        behind : (v : Use) → Goes u v (u.locks + 1) → u.locks < most_locks → (o : Option Reply) → first_refusal (select_refusals (no_rows t) w (Some pd)) ≡ o
            → Plans (refuse o >> (considered mode.S (p.number, no_rows t) (point t (Some pd)) >>= (λ rows. answered (with_lying (no_rows t) (lying_rows rows))))) v (at family (u.locks + 1)) Q F
        behind v g low (Some r) h =
            λ x. let late = refused_early t w pd r h in
            ends_refused back_ends u st family s (u.locks + 1) r (effect_some back_ends s t is ∙ ap (λ o. unless o (reads s (reply.Rows (shown t w (chosen t (Some pd)))))) late)
            (refusal_other t w pd r late) (omega (arith, low)) (omega (arith, total))
        behind v g low None h =
            let z : Stand = at family (u.locks + 1) in
            let ends : List Stored → Planning Reply = λ rows. answered (with_lying (no_rows t) (lying_rows rows)) in
            let walk : Option Entry → Planning (List Stored) = λ o. walking mode.S p.number key (flat_map route (option_to_list o)) [] in
            let P : Stand → List Stored → Use → Type 0 = λ y r x. Plans (ends r) x y Q F in
            subst (λ o. Plans (considered mode.S (p.number, no_rows t) o >>= ends) v z Q F) (sym by_key)
            (plans_bind (considered mode.S (p.number, no_rows t) (Some key)) ends v z Q F
            (plans_bind (entry_under mode.S p.number (group_of key)) walk v z P F
            (entry_comes F mode.S p.number (group_of key) v z (λ y o x. Plans (walk o) x y P F) g.locks
            (λ x i reached. too_many (u.locks + 1) reached (omega (arith, low)) (omega (arith, total)))
            (λ x i l. subst (λ o. Plans (walk o) x (granted z) P F) (sym (entry_told back_ends family s sys few p at_spread (group_of key) e entry)) (walks x i.locks (omega (arith, l)))))))

    comes : IsByKey name (Some pd) s → (o : Option Table) → table_named s name ≡ o → Plans (select_plan name w (Some pd)) u (start family u) Q F
    comes so None none = unfound none
    comes so (Some t) is =
        let p = spread_there back_ends s sys.state name t is in
        let k = key_there (point t (Some pd)) (so t is) in
        let e = entry_there back_ends family s sys few p.0 (at_spread t p.0 is p.1 k.0 k.1) k.0 in
        plans_bind (table_of name) _ u (start family u) Q F
        (table_comes F name u (start family u) _ refl
        (λ v g reached. too_many u.locks reached within.locks (let all = total t p.0 is p.1 k.0 k.1 e.0 e.1 in omega (arith, all)))
        (p.0.number, no_rows t) (table_told back_ends family s sys name t p.0 is p.1)
        (λ v g l. behind t p.0 is p.1 k.0 k.1 e.0 e.1 v g l (first_refusal (select_refusals (no_rows t) w (Some pd))) refl))

select_comes : (w : What) (name : List ℕ) (pd : Pred) (back_ends : ℕ) (u : Use) (family : Family) (s : State) → IsByKey name (Some pd) s → back_ends ≤ most_back_ends → IsWithin u
    → Sys back_ends family s → Plans (plan back_ends (statement.Select w name (Some pd))) u (start family u)
    (λ z r v. Ended back_ends u (statement.Select w name (Some pd)) family s z r) (λ z r v. Ended back_ends u (statement.Select w name (Some pd)) family s z r)
unfolding plan
select_comes w name pd back_ends u family s so few within sys = comes w name pd back_ends u family s few within sys so (table_named s name) refl

pub select_rightly : (w : What) (name : List ℕ) (pd : Pred) → PlanDoesWhere (IsByKey name (Some pd)) (statement.Select w name (Some pd))
select_rightly w name pd = ends_does_where (IsByKey name (Some pd)) (statement.Select w name (Some pd)) (select_comes w name pd)
