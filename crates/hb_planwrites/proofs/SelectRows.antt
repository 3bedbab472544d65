-- What the plan of a SELECT comes to, whichever its condition.
use Rattle.std.proofs.Common.{◌≡◌, ℕ, ◌+◌, ◌≤◌, ℤ, List, Option, Some, None, Err, Bool, false, refl, subst, sym, ap, ◌∙◌, arith}
use Rattle.std.specs.Prelude.{option_map, unwrap_or}
use Rattle.std.specs.Str.{bytes_eq}
use Rattle.hb_types.specs.declared.change.Stored.{Stored}
use Rattle.hb_types.specs.declared.lock.Mode.TheVariants as mode
use Rattle.hb_types.specs.declared.value.Value.{Value}
use Rattle.hb_types.proofs.Ascending.{in_Each}
use Rattle.hb_model.specs.declared.condition.Pred.{Pred}
use Rattle.hb_model.specs.declared.reply.Reply.{Reply}
use Rattle.hb_model.specs.declared.reply.Reply.TheVariants as reply
use Rattle.hb_model.specs.declared.statement.Statement.{Statement}
use Rattle.hb_model.specs.declared.statement.Statement.TheVariants as statement
use Rattle.hb_model.specs.declared.statement.What.{What}
use Rattle.hb_model.specs.declared.table.Table.{Table}
use Rattle.hb_model.specs.Does.{effect, reads, select_in}
use Rattle.hb_model.specs.Families.{Family}
use Rattle.hb_model.specs.Needs.{locks_of, most_locks, no_rows}
use Rattle.hb_model.specs.Refusals.{first_refusal, select_refusals, unless}
use Rattle.hb_model.specs.Rows.{chosen, point, shown}
use Rattle.hb_model.specs.State.{State, Spread, table_named, spread_named}
use Rattle.hb_model.specs.System.{Sys}
use Rattle.hb_model.specs.Valid.{IsTable}
use Rattle.hb_talk.specs.Plans.{lying_rows, with_lying}
use Rattle.hb_talk.specs.PlansDefine.{plan}
use Rattle.hb_talk.specs.Talk.{Use, Planning, ◌>>◌, pure, refuse}
use Rattle.hb_plancalc.specs.Counted.{IsWithin}
use Rattle.hb_planlaws.specs.Planned.{PlanDoes, PlanDoesWhere, most_back_ends}
use Rattle.hb_plancalc.proofs.Comes.{Stand, Comes}
use Rattle.hb_planlaws.proofs.Ends.{at, ends_done, is_too_much, start}
use Rattle.hb_planlaws.proofs.Named.{find_holds}
use Rattle.hb_planwrites.proofs.Closing.{Closed, ended_closed, marked_does_where}
use Rattle.hb_planwrites.proofs.Gather.{Gathers}
use Rattle.hb_planwrites.proofs.Marks.{Marked, Settled, forget_last, forget_marking, last, last_comes, marking, unmarked}
use Rattle.hb_planwrites.proofs.Scanning.{rows_gather}
use Rattle.hb_planwrites.proofs.Seen.{chosen_seen, only, refusal_other, refusals_seen, refused_early, seen, shown_only}
use Rattle.hb_planwrites.proofs.Tabled.{Finishes, forgets_tabled, refused_at, tabled, tabled_comes}

module _ (w : What) (pred : Option Pred) where
  abbrev static : Table → Option Reply
  static t = first_refusal (select_refusals t w pred)

  abbrev key : Table → Option ℤ
  key t = point t pred

  abbrev answer : Table → Reply
  answer t = reply.Rows (shown t w (chosen t pred))

  abbrev ending : Table → List Stored → Marked Reply
  ending t rows = marking (refuse (static (with_lying t (lying_rows rows)))) (λ _. last (pure (answer (with_lying t (lying_rows rows)))))

  abbrev plainly : Table → List Stored → Planning Reply
  plainly t rows = refuse (static (with_lying t (lying_rows rows))) >> pure (answer (with_lying t (lying_rows rows)))

  forgets_ending : (t : Table) (rows : List Stored) (u : Use) → unmarked (ending t rows u) ≡ plainly t rows u
  forgets_ending t rows u =
      let x = with_lying t (lying_rows rows) in
      forget_marking (refuse (static x)) (λ _. last (pure (answer x))) (λ _. pure (answer x)) (λ _ v. forget_last (pure (answer x)) v) u

  module _ (name : List ℕ) where
    abbrev st : Statement
    st = statement.Select w name pred

    abbrev marked : Marked Reply
    marked = tabled mode.S key static ending name

    forgets : (back_ends : ℕ) (u : Use) → unmarked (marked u) ≡ plan back_ends st u
    unfolding plan
    forgets back_ends u = forgets_tabled mode.S key static ending plainly forgets_ending name u

    effect_some : (back_ends : ℕ) (s : State) (t : Table) → table_named s name ≡ Some t → effect back_ends s st ≡ select_in s w pred t
    unfolding effect
    effect_some back_ends s t is = ap (λ o. unwrap_or (option_map (select_in s w pred) o) (Err reply.NoTable)) is

    effect_none : (back_ends : ℕ) (s : State) → table_named s name ≡ None → effect back_ends s st ≡ Err reply.NoTable
    unfolding effect
    effect_none back_ends s none = ap (λ o. unwrap_or (option_map (select_in s w pred) o) (Err reply.NoTable)) none

    module _ (back_ends : ℕ) (u : Use) (family : Family) (s : State) (few : back_ends ≤ most_back_ends) (within : IsWithin u) (sys : Sys back_ends family s) where
      abbrev C : Bool → Stand → Reply → Type 0
      C = Closed back_ends u st s

      refused_effect : (t : Table) → table_named s name ≡ Some t → (r : Reply) → static t ≡ Some r → effect back_ends s st ≡ Err r
      refused_effect t is r h = effect_some back_ends s t is ∙ ap (λ o. unless o (reads s (answer t))) h

      early : (t : Table) → table_named s name ≡ Some t → (r : Reply) → static (no_rows t) ≡ Some r → (effect back_ends s st ≡ Err r) × (is_too_much r ≡ false)
      early t is r h = let late = refused_early t w pred r h in (refused_effect t is r late, refusal_other t w pred r late)

      module _ (t : Table) (is : table_named s name ≡ Some t) (v : Use) (n : ℕ) (low : n ≤ most_locks) (all : n ≡ u.locks + locks_of s st) where
        answers : (o : Option Reply) → static t ≡ o → Comes (marking (refuse o) (λ _. last (pure (answer t))) v) (at family n) (Settled C)
        answers None h =
            last_comes C (pure (answer t)) v (at family n)
            (ended_closed back_ends u st family s sys (at family n) (answer t)
            (ends_done back_ends u st family s n (answer t) (effect_some back_ends s t is ∙ ap (λ o. unless o (reads s (answer t))) h) refl within.bytes low all))
        answers (Some r) h = λ x. refused_at back_ends u st family s sys n r (refused_effect t is r h) (refusal_other t w pred r h) low (omega (arith, all))

        abbrev answered : List (List Value) → Marked Reply
        answered rs = marking (refuse (static (only t rs))) (λ _. last (pure (answer (only t rs))))

        answers_seen : Comes (answered (seen t pred) v) (at family n) (Settled C)
        answers_seen =
            subst (λ o. Comes (marking (refuse o) (λ _. last (pure (answer (only t (seen t pred))))) v) (at family n) (Settled C)) (sym (ap first_refusal (refusals_seen t w pred)))
            (subst (λ rs. Comes (marking (refuse (static t)) (λ _. last (pure (reply.Rows rs))) v) (at family n) (Settled C))
            (sym (shown_only t w (seen t pred) (chosen (only t (seen t pred)) pred) ∙ ap (shown t w) (chosen_seen t pred)))
            (answers (static t) refl))

      finishes : (t : Table) (p : Spread) → table_named s name ≡ Some t → spread_named s name ≡ Some p
          → Finishes mode.S key static ending name st back_ends u family s within sys refl (effect_none back_ends s) early (λ x. refl) t p
      finishes t p is there rows gathered v n bytes low all =
          subst (λ rs. Comes (answered t is v n low all rs v) (at family n) (Settled C)) (sym gathered.read) (answers_seen t is v n low all)

      gathers : (t : Table) (p : Spread) → table_named s name ≡ Some t → spread_named s name ≡ Some p → Gathers family t p (key t)
      gathers t p is there =
          rows_gather back_ends family s sys few t p (in_Each IsTable t s.tables (find_holds (λ (x : Table). bytes_eq x.name name) s.tables t is).1 sys.state.tables)
          (sys.tables name t p is there) (find_holds (λ (x : Spread). bytes_eq x.name name) s.layout.spreads p there).1 (key t)

      comes : Comes (marked u) (start family u) (Settled C)
      comes = tabled_comes mode.S key static ending name st back_ends u family s within sys refl (effect_none back_ends s) early (λ x. refl) gathers finishes

select_where : (w : What) (name : List ℕ) (pred : Option Pred) → PlanDoesWhere (λ s. Unit {0}) (statement.Select w name pred)
select_where w name pred = marked_does_where (λ s. Unit {0}) (statement.Select w name pred) (λ b. marked w pred name) (forgets w pred name)
    (λ back_ends u family s _ few within sys. comes w pred name back_ends u family s few within sys)

pub select_rightly : (w : What) (name : List ℕ) (pred : Option Pred) → PlanDoes (statement.Select w name pred)
select_rightly w name pred back_ends u v calls r few within follows inside =
    let d = select_where w name pred back_ends u v calls r few within follows inside in (d.0, λ family s sys ans. d.1 family s tt sys ans)
