-- What the plan of an UPDATE comes to.
use Rattle.std.proofs.Common.{◌≡◌, ℕ, ◌+◌, ◌≤◌, ℤ, List, [], ◌∷◌, length, map, filter, Option, Some, None, Ok, Err, Bool, true, false, refl, subst, sym, ap, ◌∙◌, arith}
use Rattle.std.specs.Prelude.{fold, if◌then◌else◌, option_map, sum_by, unwrap_or}
use Rattle.std.specs.Str.{bytes_eq}
use Rattle.std.specs.Ordering.{int_eq}
use Rattle.hb_types.specs.declared.change.Change.{Change}
use Rattle.hb_types.specs.declared.change.Stored.{Stored}
use Rattle.hb_types.specs.declared.lock.Mode.TheVariants as mode
use Rattle.hb_types.specs.declared.places.Place.{Place}
use Rattle.hb_types.specs.declared.value.Value.{Value}
use Rattle.hb_types.specs.Lists.{Each, IsIn}
use Rattle.hb_types.specs.Records.{change_bytes}
use Rattle.hb_types.proofs.Ascending.{Each-in, in_Each}
use Rattle.hb_types.proofs.PutLaws.{by_test}
use Rattle.hb_model.specs.declared.condition.Pred.{Pred}
use Rattle.hb_model.specs.declared.reply.Reply.{Reply}
use Rattle.hb_model.specs.declared.reply.Reply.TheVariants as reply
use Rattle.hb_model.specs.declared.statement.Statement.{Statement}
use Rattle.hb_model.specs.declared.statement.Statement.TheVariants as statement
use Rattle.hb_model.specs.declared.statement.Set.{Set}
use Rattle.hb_model.specs.declared.table.Table.{Table}
use Rattle.hb_model.specs.Does.{effect, update_in, with_rows}
use Rattle.hb_model.specs.Families.{Family}
use Rattle.hb_model.specs.Needs.{locks_of, most_locks, no_rows}
use Rattle.hb_model.specs.Refusals.{Effect, change_size, first_refusal, update_refusals, unless}
use Rattle.hb_model.specs.Rows.{assigned, chooses, chosen, key_of, point}
use Rattle.hb_model.specs.State.{State, Spread, table_named, spread_named}
use Rattle.hb_model.specs.System.{Sys}
use Rattle.hb_model.specs.TableRows.{has_key, row_of}
use Rattle.hb_model.specs.Valid.{IsTable, FitsAll}
use Rattle.hb_talk.specs.Plans.{Lying, lying_rows, putting, sizes, with_lying, writes}
use Rattle.hb_talk.specs.PlansDefine.{plan}
use Rattle.hb_talk.specs.Talk.{Use, Planning, ◌>>◌, pure, refuse}
use Rattle.hb_plancalc.specs.Counted.{IsWithin}
use Rattle.hb_planlaws.specs.Planned.{PlanDoes, PlanDoesWhere, most_back_ends}
use Rattle.hb_plancalc.proofs.Comes.{Stand, Comes, plans_bind}
use Rattle.hb_planlaws.proofs.Ends.{at, is_too_much, start}
use Rattle.hb_planlaws.proofs.Named.{find_holds}
use Rattle.hb_planwrites.proofs.Chosen.{chosen_listed, in_filter, listed, listed_ascend, listed_lie, listed_pass, not_chosen}
use Rattle.hb_planwrites.proofs.Closing.{Closed, closed_too_much, closed_written, marked_does_where, sizes_more, writes_come, written}
use Rattle.hb_planwrites.proofs.Gather.{Gathered, Gathers}
use Rattle.hb_planwrites.proofs.KeyWrites.{entry_apart, of_table, to_table}
use Rattle.hb_planwrites.proofs.ListWrites.{Lies, change_at, list_put}
use Rattle.hb_planwrites.proofs.Marks.{Marked, Settled, forget_last, forget_marking, last, last_comes, marking, unmarked}
use Rattle.hb_planwrites.proofs.Scanning.{rows_gather}
use Rattle.hb_planwrites.proofs.Seen.{chooses_only, chosen_seen, only, seen}
use Rattle.hb_planwrites.proofs.Systems.{each_mapped, find-mapped, sys_after}
use Rattle.hb_planwrites.proofs.Tabled.{Finishes, forgets_tabled, refused_at, tabled, tabled_comes}
use Rattle.hb_endings.proofs.Assigned.{assigned_fits}
use Rattle.hb_planupdate.proofs.Assigns.{assigned_key, changed_ascend}
use Rattle.hb_planupdate.proofs.UpdateRefusals.{Unrefused, refusal, refusal_other, refusal_seen, refused_early, unrefused}

-- ---- bytes

put_bytes : (place : Place) (values : List Value) → length (change_bytes (putting place values)) ≡ change_size values
put_bytes place values = omega arith

sum_from : (f : List Value → ℕ) (rows : List (List Value)) (n : ℕ) → fold (λ a (r : List Value). a + f r) n rows ≡ n + sum_by f rows
sum_from f [] n = omega arith
sum_from f (r ∷ rows) n = let a = sum_from f rows (n + f r) in let b = sum_from f rows (0 + f r) in omega (arith, a, b)

sum_more : (f : List Value → ℕ) (r : List Value) (rows : List (List Value)) → sum_by f (r ∷ rows) ≡ f r + sum_by f rows
sum_more f r rows = let a = sum_from f rows (0 + f r) in omega (arith, a)

put_sizes : (f : List Value → List Value) (ls : List Lying) → sizes (map (λ (l : Lying). putting l.0 (f l.1)) ls) ≡ sum_by (λ row. change_size (f row)) (map (λ (l : Lying). l.1) ls)
put_sizes f [] = refl
put_sizes f (l ∷ ls) =
    let more = sizes_more (putting l.0 (f l.1)) (map (λ (l : Lying). putting l.0 (f l.1)) ls) in
    let one = put_bytes l.0 (f l.1) in
    let rest = put_sizes f ls in
    let sum = sum_more (λ row. change_size (f row)) l.1 (map (λ (l : Lying). l.1) ls) in
    omega (arith, more, one, rest, sum)

-- ---- UPDATE

module _ (sets : List Set) (pred : Option Pred) where
  abbrev static : Table → Option Reply
  static t = first_refusal (update_refusals t sets pred)

  abbrev key : Table → Option ℤ
  key t = point t pred

  -- the Writes for rows that were read, and the reply
  abbrev puts : Table → List Lying → Planning Reply
  puts t ls = writes (map (λ l. putting l.0 (assigned t sets l.1)) (filter (λ l. chooses t pred l.1) ls)) >> pure (reply.Updated (length (chosen t pred)))

  abbrev ending : Table → List Stored → Marked Reply
  ending t rows = marking (refuse (refusal (with_lying t (lying_rows rows)) sets pred)) (λ _. last (puts (with_lying t (lying_rows rows)) (lying_rows rows)))

  abbrev plainly : Table → List Stored → Planning Reply
  plainly t rows = refuse (refusal (with_lying t (lying_rows rows)) sets pred) >> puts (with_lying t (lying_rows rows)) (lying_rows rows)

  forgets_ending : (t : Table) (rows : List Stored) (u : Use) → unmarked (ending t rows u) ≡ plainly t rows u
  forgets_ending t rows u =
      let x = with_lying t (lying_rows rows) in
      let ls = lying_rows rows in
      forget_marking (refuse (refusal x sets pred)) (λ _. last (puts x ls)) (λ _. puts x ls) (λ _ v. forget_last (puts x ls) v) u

  module _ (name : List ℕ) where
    abbrev st : Statement
    st = statement.Update name sets pred

    abbrev marked : Marked Reply
    marked = tabled mode.X key static ending name

    forgets : (back_ends : ℕ) (u : Use) → unmarked (marked u) ≡ plan back_ends st u
    unfolding plan
    forgets back_ends u = forgets_tabled mode.X key static ending plainly forgets_ending name u

    effect_some : (back_ends : ℕ) (s : State) (t : Table) → table_named s name ≡ Some t → effect back_ends s st ≡ update_in s sets pred t
    unfolding effect
    effect_some back_ends s t is = ap (λ o. unwrap_or (option_map (update_in s sets pred) o) (Err reply.NoTable)) is

    effect_none : (back_ends : ℕ) (s : State) → table_named s name ≡ None → effect back_ends s st ≡ Err reply.NoTable
    unfolding effect
    effect_none back_ends s none = ap (λ o. unwrap_or (option_map (update_in s sets pred) o) (Err reply.NoTable)) none

    -- what becomes of a row
    abbrev becomes : Table → List Value → List Value
    becomes t row = if chooses t pred row then assigned t sets row else row

    abbrev left : Table → List (List Value)
    left t = map (becomes t) t.rows

    abbrev done : State → Table → Effect
    done s t = record { state = with_rows s t (left t); reply = reply.Updated (length (chosen t pred)); bytes = sum_by (λ row. change_size (assigned t sets row)) (chosen t pred) }

    module _ (back_ends : ℕ) (u : Use) (family : Family) (s : State) (few : back_ends ≤ most_back_ends) (within : IsWithin u) (sys : Sys back_ends family s) where
      abbrev C : Bool → Stand → Reply → Type 0
      C = Closed back_ends u st s

      refused_effect : (t : Table) → table_named s name ≡ Some t → (r : Reply) → refusal t sets pred ≡ Some r → effect back_ends s st ≡ Err r
      refused_effect t is r h = effect_some back_ends s t is ∙ ap (λ o. unless o (done s t)) h

      done_effect : (t : Table) → table_named s name ≡ Some t → refusal t sets pred ≡ None → effect back_ends s st ≡ Ok (done s t)
      done_effect t is h = effect_some back_ends s t is ∙ ap (λ o. unless o (done s t)) h

      early : (t : Table) → table_named s name ≡ Some t → (r : Reply) → static (no_rows t) ≡ Some r → (effect back_ends s st ≡ Err r) × (is_too_much r ≡ false)
      early t is r h = let late = refused_early t sets pred r h in (refused_effect t is r late, refusal_other t sets pred r late)

      module _ (t : Table) (p : Spread) (is : table_named s name ≡ Some t) (there : spread_named s name ≡ Some p) where
        at_table : IsIn t s.tables
        at_table = (find_holds (λ (x : Table). bytes_eq x.name name) s.tables t is).1

        at_spread : IsIn p s.layout.spreads
        at_spread = (find_holds (λ (x : Spread). bytes_eq x.name name) s.layout.spreads p there).1

        fits : IsTable t
        fits = in_Each IsTable t s.tables at_table sys.state.tables

        module _ (ls : List Lying) (gathered : Gathered family p t (key t) ls) where
          abbrev new : List Value → Option (List Value)
          new v = Some (assigned t sets v)

          abbrev chosen_ones : List Lying
          chosen_ones = listed family p t pred ls gathered

          abbrev changes : List Change
          changes = map (change_at new) chosen_ones

          module _ (accepted : Unrefused t sets pred) where
            key_stays : (row : List Value) → key_of t (becomes t row) ≡ key_of t row
            key_stays row =
                by_test (chooses t pred row)
                (λ y. ap (λ b. key_of t (if b then assigned t sets row else row)) y ∙ assigned_key t sets row accepted.keys_stay)
                (λ n. ap (λ b. key_of t (if b then assigned t sets row else row)) n)

            row_left : (j : ℤ) → row_of (record t { rows = left t }) j ≡ option_map (becomes t) (row_of t j)
            row_left j = find-mapped (has_key t j) (becomes t) t.rows (λ row. ap (λ k. int_eq k j) (key_stays row))

            put : (l : Lying) → IsIn l chosen_ones → row_of (record t { rows = left t }) l.0.key ≡ Some (assigned t sets l.1)
            put l i =
                let lies : Lies family p (row_of t) l = in_Each (Lies family p (row_of t)) l chosen_ones i (listed_lie family p t pred ls gathered) in
                let pass : chooses t pred l.1 ≡ true = in_Each (λ (x : Lying). chooses t pred x.1 ≡ true) l chosen_ones i (listed_pass family p t pred ls gathered) in
                row_left l.0.key ∙ ap (option_map (becomes t)) lies.is ∙ ap (λ b. Some (if b then assigned t sets l.1 else l.1)) pass

            others_stay : (j : ℤ) → Each (λ (l : Lying). l.0.key ≡ j → ⊥) chosen_ones → (o : Option (List Value)) → row_of t j ≡ o → option_map (becomes t) o ≡ o
            others_stay j n None e = refl
            others_stay j n (Some r) e = ap (λ b. Some (if b then assigned t sets r else r)) (not_chosen family p t pred ls gathered j n r e)

            row_fits : (row : List Value) → IsIn row t.rows → FitsAll t.columns (becomes t row)
            row_fits row i =
                let before : FitsAll t.columns row = in_Each (FitsAll t.columns) row t.rows i fits.rows_fit in
                by_test (chooses t pred row)
                (λ y. subst (λ b. FitsAll t.columns (if b then assigned t sets row else row)) (sym y)
                (assigned_fits t sets row before accepted.assignable (accepted.accepted row (in_filter (chooses t pred) row t.rows i y))))
                (λ n. subst (λ b. FitsAll t.columns (if b then assigned t sets row else row)) (sym n) before)

            -- the Writes leave a system
            system_left : Sys back_ends (written family changes) (with_rows s t (left t))
            system_left =
                let rows = sys.tables name t p is there in
                let all_put =
                list_put p new (entry_apart back_ends family s sys p at_spread) chosen_ones family (row_of t) (row_of (record t { rows = left t })) (of_table family p t rows)
                (listed_lie family p t pred ls gathered) (listed_ascend family p t pred ls gathered)
                (Each-in (λ (l : Lying). row_of (record t { rows = left t }) l.0.key ≡ Some (assigned t sets l.1)) chosen_ones put)
                (λ j n. row_left j ∙ others_stay j n (row_of t j) refl) in
                sys_after back_ends family (written family changes) s sys name t p is there (left t) all_put.1 (to_table (written family changes) p (record t { rows = left t }) all_put.0)
                (changed_ascend t (becomes t) key_stays t.rows fits.rows_ascend) (each_mapped (FitsAll t.columns) (becomes t) t.rows row_fits)

          size : sizes changes ≡ sum_by (λ row. change_size (assigned t sets row)) (chosen t pred)
          size = put_sizes (assigned t sets) chosen_ones ∙ ap (sum_by (λ row. change_size (assigned t sets row))) (sym (chosen_listed family p t pred ls gathered))

          module _ (v : Use) (n : ℕ) (even : v.bytes ≡ u.bytes) (low : n ≤ most_locks) (all : n ≡ u.locks + locks_of s st) where
            answers : (o : Option Reply) → refusal t sets pred ≡ o → Comes (marking (refuse o) (λ _. last (puts t ls)) v) (at family n) (Settled C)
            answers None h =
                let r : Reply = reply.Updated (length (chosen t pred)) in
                last_comes C (puts t ls) v (at family n)
                (plans_bind (writes changes) (λ _. pure r) v (at family n) (λ y x w. C false y x) (λ y x w. C false y x)
                (writes_come (λ y x w. C false y x) changes v (at family n) (λ y a w. C false y r)
                (λ w l. closed_written back_ends u st family s sys (done s t) _ (done_effect t is h) (omega (arith, l, even, size)) (system_left (unrefused t sets pred h)) (omega (arith, size)) all low)
                (λ w l. closed_too_much back_ends u st family s sys (done s t) n (done_effect t is h) (omega (arith, l, even, size)) all low)))
            answers (Some r) h = λ x. refused_at back_ends u st family s sys n r (refused_effect t is r h) (refusal_other t sets pred r h) low (omega (arith, all))

            abbrev answered : List (List Value) → Marked Reply
            answered rs = marking (refuse (refusal (only t rs) sets pred)) (λ _. last (puts (only t rs) ls))

            abbrev puts_by : (List Value → Bool) → ℕ → Planning Reply
            puts_by f count = writes (map (λ l. putting l.0 (assigned t sets l.1)) (filter (λ l. f l.1) ls)) >> pure (reply.Updated count)

            answers_seen : Comes (answered (seen t pred) v) (at family n) (Settled C)
            answers_seen =
                subst (λ o. Comes (marking (refuse o) (λ _. last (puts (only t (seen t pred)) ls)) v) (at family n) (Settled C)) (sym (refusal_seen t sets pred))
                (subst (λ f. Comes (marking (refuse (refusal t sets pred)) (λ _. last (puts_by f (length (chosen (only t (seen t pred)) pred)))) v) (at family n) (Settled C)) (sym (chooses_only t (seen t pred) pred))
                (subst (λ rs. Comes (marking (refuse (refusal t sets pred)) (λ _. last (puts_by (chooses t pred) (length rs))) v) (at family n) (Settled C)) (sym (chosen_seen t pred))
                (answers (refusal t sets pred) refl)))

      finishes : (t : Table) (p : Spread) → table_named s name ≡ Some t → spread_named s name ≡ Some p
          → Finishes mode.X key static ending name st back_ends u family s within sys refl (effect_none back_ends s) early (λ x. refl) t p
      finishes t p is there rows gathered v n bytes low all =
          subst (λ rs. Comes (answered t p is there (lying_rows rows) gathered v n bytes low all rs v) (at family n) (Settled C)) (sym gathered.read)
          (answers_seen t p is there (lying_rows rows) gathered v n bytes low all)

      gathers : (t : Table) (p : Spread) → table_named s name ≡ Some t → spread_named s name ≡ Some p → Gathers family t p (key t)
      gathers t p is there = rows_gather back_ends family s sys few t p (fits t p is there) (sys.tables name t p is there) (at_spread t p is there) (key t)

      comes : Comes (marked u) (start family u) (Settled C)
      comes = tabled_comes mode.X key static ending name st back_ends u family s within sys refl (effect_none back_ends s) early (λ x. refl) gathers finishes

update_where : (name : List ℕ) (sets : List Set) (pred : Option Pred) → PlanDoesWhere (λ s. Unit {0}) (statement.Update name sets pred)
update_where name sets pred = marked_does_where (λ s. Unit {0}) (statement.Update name sets pred) (λ b. marked sets pred name) (forgets sets pred name)
    (λ back_ends u family s _ few within sys. comes sets pred name back_ends u family s few within sys)

pub update_rightly : (name : List ℕ) (sets : List Set) (pred : Option Pred) → PlanDoes (statement.Update name sets pred)
update_rightly name sets pred back_ends u v calls r few within follows inside =
    let d = update_where name sets pred back_ends u v calls r few within follows inside in (d.0, λ family s sys ans. d.1 family s tt sys ans)
