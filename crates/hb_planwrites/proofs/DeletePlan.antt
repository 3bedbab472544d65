-- What the plan of a DELETE comes to.
use Rattle.std.proofs.Common.{◌≡◌, ℕ, suc, ◌+◌, ◌≤◌, ℤ, List, [], ◌∷◌, length, map, filter, Option, Some, None, Ok, Err, Bool, true, false, cond, not, refl, subst, sym, ap, ◌∙◌, arith}
use Rattle.std.specs.Prelude.{◌*◌, find, option_map, unwrap_or}
use Rattle.std.specs.Str.{bytes_eq}
use Rattle.std.specs.Ordering.{int_cmp}
use Rattle.std.specs.declared.cmp.Ordering.TheVariants.{Less}
use Rattle.std.proofs.lemmas.Bool.Decides.{Decides-int_eq}
use Rattle.std.proofs.lemmas.Cmp.{int_cmp_total, on_total}
use Rattle.hb_types.specs.declared.change.Change.{Change}
use Rattle.hb_types.specs.declared.change.Stored.{Stored}
use Rattle.hb_types.specs.declared.lock.Mode.TheVariants as mode
use Rattle.hb_types.specs.declared.places.Place.{Place}
use Rattle.hb_types.specs.declared.value.Value.{Value}
use Rattle.hb_types.specs.Lists.{Each, IsIn}
use Rattle.hb_types.specs.Records.{change_bytes}
use Rattle.hb_types.proofs.Ascending.{Ascends-first, Ascends-tail, Each-in, in_Each, irreflexive}
use Rattle.hb_types.proofs.PutLaws.{by_test}
use Rattle.hb_model.specs.declared.condition.Pred.{Pred}
use Rattle.hb_model.specs.declared.reply.Reply.{Reply}
use Rattle.hb_model.specs.declared.reply.Reply.TheVariants as reply
use Rattle.hb_model.specs.declared.statement.Statement.{Statement}
use Rattle.hb_model.specs.declared.statement.Statement.TheVariants as statement
use Rattle.hb_model.specs.declared.statement.What.TheVariants as what
use Rattle.hb_model.specs.declared.table.Table.{Table}
use Rattle.hb_model.specs.Does.{delete_in, effect, with_rows}
use Rattle.hb_model.specs.Families.{Family}
use Rattle.hb_model.specs.Needs.{locks_of, most_locks, no_rows}
use Rattle.hb_model.specs.Refusals.{Effect, first_refusal, removal_size, select_refusals, unless}
use Rattle.hb_model.specs.Rows.{AreByKey, chooses, chosen, key_of, point}
use Rattle.hb_model.specs.State.{State, Spread, table_named, spread_named}
use Rattle.hb_model.specs.System.{Sys}
use Rattle.hb_model.specs.TableRows.{has_key, row_of}
use Rattle.hb_model.specs.Valid.{IsTable, FitsAll}
use Rattle.hb_model.proofs.DictionaryRows.{not_true}
use Rattle.hb_talk.specs.Plans.{Lying, lying_rows, removing, sizes, with_lying, writes}
use Rattle.hb_talk.specs.PlansDefine.{plan}
use Rattle.hb_talk.specs.Talk.{Use, Planning, ◌>>◌, pure, refuse}
use Rattle.hb_plancalc.specs.Counted.{IsWithin}
use Rattle.hb_planlaws.specs.Planned.{PlanDoes, PlanDoesWhere, most_back_ends}
use Rattle.hb_plancalc.proofs.Comes.{Stand, Comes, plans_bind}
use Rattle.hb_planlaws.proofs.Ends.{at, is_too_much, start}
use Rattle.hb_planlaws.proofs.Named.{find_holds}
use Rattle.hb_planwrites.proofs.Chosen.{chosen_listed, listed, listed_ascend, listed_lie, listed_pass, not_chosen}
use Rattle.hb_planwrites.proofs.Closing.{Closed, closed_too_much, closed_written, marked_does_where, sizes_more, writes_come, written}
use Rattle.hb_planwrites.proofs.Gather.{Gathered, Gathers}
use Rattle.hb_planwrites.proofs.KeyWrites.{entry_apart, of_table, to_table}
use Rattle.hb_planwrites.proofs.ListWrites.{Lies, change_at, list_put}
use Rattle.hb_planwrites.proofs.Marks.{Marked, Settled, forget_last, forget_marking, last, last_comes, marking, unmarked}
use Rattle.hb_planwrites.proofs.RowsPut.{each_filtered, filter_ascends}
use Rattle.hb_planwrites.proofs.Scanning.{rows_gather}
use Rattle.hb_planwrites.proofs.Seen.{chooses_only, chosen_seen, only, refusal_other, refusals_seen, refused_early, seen}
use Rattle.hb_planwrites.proofs.Systems.{sys_after}
use Rattle.hb_planwrites.proofs.Tabled.{Finishes, forgets_tabled, refused_at, tabled, tabled_comes}

-- ---- rows that are left

-- a row, if it is left
abbrev left_if : (List Value → Bool) → Option (List Value) → Option (List Value)
left_if q None = None
left_if q (Some r) = cond (q r) (Some r) None

module _ (t : Table) (q : List Value → Bool) (key : ℤ) where
  none_behind : (rows : List (List Value)) → Each (λ r. int_cmp key (key_of t r) ≡ Less) rows → find (has_key t key) (filter q rows) ≡ None
  none_behind [] e = refl
  none_behind (r ∷ rs) e =
      let n : has_key t key r ≡ false =
      not_true (has_key t key r) (λ y. irreflexive int_cmp int_cmp_total key (subst (λ k. int_cmp key k ≡ Less) ((Decides-int_eq (key_of t r) key).0 y) e.0)) in
      by_test (q r) (λ y. rw (y, n) (none_behind rs e.1)) (λ f. rw f (none_behind rs e.1))

  -- the row of a key, among those that are left
  found_left : (rows : List (List Value)) → AreByKey t rows → find (has_key t key) (filter q rows) ≡ left_if q (find (has_key t key) rows)
  found_left [] a = refl
  found_left (r ∷ rs) a =
      let order = on_total (key_of t) int_cmp_total in
      let tail : AreByKey t rs = Ascends-tail (λ x z. int_cmp (key_of t x) (key_of t z)) order r rs a in
      by_test (has_key t key r)
      (λ y. let is : key_of t r ≡ key = (Decides-int_eq (key_of t r) key).0 y in
      let none : find (has_key t key) (filter q rs) ≡ None =
      none_behind rs (subst (λ k. Each (λ z. int_cmp k (key_of t z) ≡ Less) rs) is (Ascends-first (λ x z. int_cmp (key_of t x) (key_of t z)) order r rs a)) in
      by_test (q r) (λ k. rw (k, y, k) refl) (λ f. rw (f, y, f) none))
      (λ n. by_test (q r) (λ k. rw (k, n) (found_left rs tail)) (λ f. rw (f, n) (found_left rs tail)))

-- ---- bytes

removal_bytes : (place : Place) → length (change_bytes (removing place)) ≡ 15
removal_bytes place = refl

removal_sizes : (ls : List Lying) → sizes (map (λ (l : Lying). removing l.0) ls) ≡ removal_size * length ls
removal_sizes [] = refl
removal_sizes (l ∷ ls) =
    let more = sizes_more (removing l.0) (map (λ (l : Lying). removing l.0) ls) in
    let one = removal_bytes l.0 in
    let rest = removal_sizes ls in
    omega (arith, more, one, rest)

length-mapped : {A B : Type 0} (f : A → B) (xs : List A) → length (map f xs) ≡ length xs
length-mapped f [] = refl
length-mapped f (x ∷ xs) = ap (λ n. suc n) (length-mapped f xs)

-- ---- DELETE

module _ (pred : Option Pred) where
  abbrev static : Table → Option Reply
  static t = first_refusal (select_refusals t what.All pred)

  abbrev key : Table → Option ℤ
  key t = point t pred

  -- the Writes for rows that were read, and the reply
  abbrev removes : Table → List Lying → Planning Reply
  removes t ls = writes (map (λ l. removing l.0) (filter (λ l. chooses t pred l.1) ls)) >> pure (reply.Deleted (length (chosen t pred)))

  abbrev ending : Table → List Stored → Marked Reply
  ending t rows = marking (refuse (static (with_lying t (lying_rows rows)))) (λ _. last (removes (with_lying t (lying_rows rows)) (lying_rows rows)))

  abbrev plainly : Table → List Stored → Planning Reply
  plainly t rows = refuse (static (with_lying t (lying_rows rows))) >> removes (with_lying t (lying_rows rows)) (lying_rows rows)

  forgets_ending : (t : Table) (rows : List Stored) (u : Use) → unmarked (ending t rows u) ≡ plainly t rows u
  forgets_ending t rows u =
      let x = with_lying t (lying_rows rows) in
      let ls = lying_rows rows in
      forget_marking (refuse (static x)) (λ _. last (removes x ls)) (λ _. removes x ls) (λ _ v. forget_last (removes x ls) v) u

  module _ (name : List ℕ) where
    abbrev st : Statement
    st = statement.Delete name pred

    abbrev marked : Marked Reply
    marked = tabled mode.X key static ending name

    forgets : (back_ends : ℕ) (u : Use) → unmarked (marked u) ≡ plan back_ends st u
    unfolding plan
    forgets back_ends u = forgets_tabled mode.X key static ending plainly forgets_ending name u

    effect_some : (back_ends : ℕ) (s : State) (t : Table) → table_named s name ≡ Some t → effect back_ends s st ≡ delete_in s pred t
    unfolding effect
    effect_some back_ends s t is = ap (λ o. unwrap_or (option_map (delete_in s pred) o) (Err reply.NoTable)) is

    effect_none : (back_ends : ℕ) (s : State) → table_named s name ≡ None → effect back_ends s st ≡ Err reply.NoTable
    unfolding effect
    effect_none back_ends s none = ap (λ o. unwrap_or (option_map (delete_in s pred) o) (Err reply.NoTable)) none

    abbrev stays : Table → List Value → Bool
    stays t row = not (chooses t pred row)

    abbrev left : Table → List (List Value)
    left t = filter (stays t) t.rows

    abbrev done : State → Table → Effect
    done s t = record { state = with_rows s t (left t); reply = reply.Deleted (length (chosen t pred)); bytes = removal_size * length (chosen t pred) }

    module _ (back_ends : ℕ) (u : Use) (family : Family) (s : State) (few : back_ends ≤ most_back_ends) (within : IsWithin u) (sys : Sys back_ends family s) where
      abbrev C : Bool → Stand → Reply → Type 0
      C = Closed back_ends u st s

      refused_effect : (t : Table) → table_named s name ≡ Some t → (r : Reply) → static t ≡ Some r → effect back_ends s st ≡ Err r
      refused_effect t is r h = effect_some back_ends s t is ∙ ap (λ o. unless o (done s t)) h

      done_effect : (t : Table) → table_named s name ≡ Some t → static t ≡ None → effect back_ends s st ≡ Ok (done s t)
      done_effect t is h = effect_some back_ends s t is ∙ ap (λ o. unless o (done s t)) h

      early : (t : Table) → table_named s name ≡ Some t → (r : Reply) → static (no_rows t) ≡ Some r → (effect back_ends s st ≡ Err r) × (is_too_much r ≡ false)
      early t is r h = let late = refused_early t what.All pred r h in (refused_effect t is r late, refusal_other t what.All pred r late)

      module _ (t : Table) (p : Spread) (is : table_named s name ≡ Some t) (there : spread_named s name ≡ Some p) where
        at_table : IsIn t s.tables
        at_table = (find_holds (λ (x : Table). bytes_eq x.name name) s.tables t is).1

        at_spread : IsIn p s.layout.spreads
        at_spread = (find_holds (λ (x : Spread). bytes_eq x.name name) s.layout.spreads p there).1

        fits : IsTable t
        fits = in_Each IsTable t s.tables at_table sys.state.tables

        module _ (ls : List Lying) (gathered : Gathered family p t (key t) ls) where
          abbrev gone : List Value → Option (List Value)
          gone v = None

          abbrev chosen_ones : List Lying
          chosen_ones = listed family p t pred ls gathered

          abbrev changes : List Change
          changes = map (change_at gone) chosen_ones

          row_left : (j : ℤ) → row_of (record t { rows = left t }) j ≡ left_if (stays t) (row_of t j)
          row_left j = found_left t (stays t) j t.rows fits.rows_ascend

          removed : (l : Lying) → IsIn l chosen_ones → row_of (record t { rows = left t }) l.0.key ≡ None
          removed l i =
              let lies : Lies family p (row_of t) l = in_Each (Lies family p (row_of t)) l chosen_ones i (listed_lie family p t pred ls gathered) in
              let pass : chooses t pred l.1 ≡ true = in_Each (λ (x : Lying). chooses t pred x.1 ≡ true) l chosen_ones i (listed_pass family p t pred ls gathered) in
              row_left l.0.key ∙ ap (left_if (stays t)) lies.is ∙ ap (λ b. cond (not b) (Some l.1) None) pass

          others_stay : (j : ℤ) → Each (λ (l : Lying). l.0.key ≡ j → ⊥) chosen_ones → (o : Option (List Value)) → row_of t j ≡ o → left_if (stays t) o ≡ o
          others_stay j n None e = refl
          others_stay j n (Some r) e = ap (λ b. cond (not b) (Some r) None) (not_chosen family p t pred ls gathered j n r e)

          -- the Writes leave a system
          system_left : Sys back_ends (written family changes) (with_rows s t (left t))
          system_left =
              let rows = sys.tables name t p is there in
              let put =
              list_put p gone (entry_apart back_ends family s sys p at_spread) chosen_ones family (row_of t) (row_of (record t { rows = left t })) (of_table family p t rows)
              (listed_lie family p t pred ls gathered) (listed_ascend family p t pred ls gathered)
              (Each-in (λ (l : Lying). row_of (record t { rows = left t }) l.0.key ≡ None) chosen_ones removed)
              (λ j n. row_left j ∙ others_stay j n (row_of t j) refl) in
              sys_after back_ends family (written family changes) s sys name t p is there (left t) put.1 (to_table (written family changes) p (record t { rows = left t }) put.0)
              (filter_ascends (λ a b. int_cmp (key_of t a) (key_of t b)) (on_total (key_of t) int_cmp_total) (stays t) t.rows fits.rows_ascend)
              (each_filtered (λ a b. int_cmp (key_of t a) (key_of t b)) (on_total (key_of t) int_cmp_total) (FitsAll t.columns) (stays t) t.rows fits.rows_fit)

          size : sizes changes ≡ removal_size * length (chosen t pred)
          size =
              let a : sizes changes ≡ removal_size * length chosen_ones = removal_sizes chosen_ones in
              let b : length (chosen t pred) ≡ length chosen_ones = ap length (chosen_listed family p t pred ls gathered) ∙ length-mapped (λ (l : Lying). l.1) chosen_ones in
              omega (arith, a, b)

          module _ (v : Use) (n : ℕ) (even : v.bytes ≡ u.bytes) (low : n ≤ most_locks) (all : n ≡ u.locks + locks_of s st) where
            answers : (o : Option Reply) → static t ≡ o → Comes (marking (refuse o) (λ _. last (removes t ls)) v) (at family n) (Settled C)
            answers None h =
                let r : Reply = reply.Deleted (length (chosen t pred)) in
                last_comes C (removes t ls) v (at family n)
                (plans_bind (writes changes) (λ _. pure r) v (at family n) (λ y x w. C false y x) (λ y x w. C false y x)
                (writes_come (λ y x w. C false y x) changes v (at family n) (λ y a w. C false y r)
                (λ w l. closed_written back_ends u st family s sys (done s t) _ (done_effect t is h) (omega (arith, l, even, size)) system_left (omega (arith, size)) all low)
                (λ w l. closed_too_much back_ends u st family s sys (done s t) n (done_effect t is h) (omega (arith, l, even, size)) all low)))
            answers (Some r) h = λ x. refused_at back_ends u st family s sys n r (refused_effect t is r h) (refusal_other t what.All pred r h) low (omega (arith, all))

            abbrev answered : List (List Value) → Marked Reply
            answered rs = marking (refuse (static (only t rs))) (λ _. last (removes (only t rs) ls))

            abbrev removes_by : (List Value → Bool) → ℕ → Planning Reply
            removes_by f count = writes (map (λ l. removing l.0) (filter (λ l. f l.1) ls)) >> pure (reply.Deleted count)

            answers_seen : Comes (answered (seen t pred) v) (at family n) (Settled C)
            answers_seen =
                subst (λ o. Comes (marking (refuse o) (λ _. last (removes (only t (seen t pred)) ls)) v) (at family n) (Settled C)) (sym (ap first_refusal (refusals_seen t what.All pred)))
                (subst (λ f. Comes (marking (refuse (static t)) (λ _. last (removes_by f (length (chosen (only t (seen t pred)) pred)))) v) (at family n) (Settled C)) (sym (chooses_only t (seen t pred) pred))
                (subst (λ rs. Comes (marking (refuse (static t)) (λ _. last (removes_by (chooses t pred) (length rs))) v) (at family n) (Settled C)) (sym (chosen_seen t pred))
                (answers (static t) refl)))

      finishes : (t : Table) (p : Spread) → table_named s name ≡ Some t → spread_named s name ≡ Some p
          → Finishes mode.X key static ending name st back_ends u family s within sys refl (effect_none back_ends s) early (λ x. refl) t p
      finishes t p is there rows gathered v n bytes low all =
          subst (λ rs. Comes (answered t p is there (lying_rows rows) gathered v n bytes low all rs v) (at family n) (Settled C)) (sym gathered.read)
          (answers_seen t p is there (lying_rows rows) gathered v n bytes low all)

      gathers : (t : Table) (p : Spread) → table_named s name ≡ Some t → spread_named s name ≡ Some p → Gathers family t p (key t)
      gathers t p is there = rows_gather back_ends family s sys few t p (fits t p is there) (sys.tables name t p is there) (at_spread t p is there) (key t)

      comes : Comes (marked u) (start family u) (Settled C)
      comes = tabled_comes mode.X key static ending name st back_ends u family s within sys refl (effect_none back_ends s) early (λ x. refl) gathers finishes

delete_where : (name : List ℕ) (pred : Option Pred) → PlanDoesWhere (λ s. Unit {0}) (statement.Delete name pred)
delete_where name pred = marked_does_where (λ s. Unit {0}) (statement.Delete name pred) (λ b. marked pred name) (forgets pred name)
    (λ back_ends u family s _ few within sys. comes pred name back_ends u family s few within sys)

pub delete_rightly : (name : List ℕ) (pred : Option Pred) → PlanDoes (statement.Delete name pred)
delete_rightly name pred back_ends u v calls r few within follows inside =
    let d = delete_where name pred back_ends u v calls r few within follows inside in (d.0, λ family s sys ans. d.1 family s tt sys ans)
