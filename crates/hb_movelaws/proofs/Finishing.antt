-- What a finish does: one entry turns from Moving to its new area.
use Rattle.std.proofs.Common.{◌≡◌, inr, ℕ, ◌≤◌, List, ◌∷◌, ◌++◌, Some, true, refl, subst, sym, ap, ◌∙◌}
use Rattle.std.specs.Prelude.{slice_get, slice_set}
use Rattle.std.specs.Str.{bytes_eq}
use Rattle.std.proofs.lemmas.Bool.Decides.{Decides-eqb}
use Rattle.std.proofs.lemmas.Slice.Eq.{bytes_eq-Decides}
use Rattle.hb_types.specs.declared.entry.Entry.TheVariants.{At, Moving}
use Rattle.hb_types.specs.declared.names.Tx.{Tx}
use Rattle.hb_types.specs.declared.trail.Call.{Call}
use Rattle.hb_types.specs.Lists.{Each, IsIn}
use Rattle.hb_types.proofs.Ascending.{Each-of}
use Rattle.hb_model.specs.declared.reply.Reply.{Reply}
use Rattle.hb_model.specs.declared.reply.Reply.TheVariants as reply
use Rattle.hb_model.specs.Answers.{AnswersOf, afters, of_rows}
use Rattle.hb_model.specs.Families.{Family}
use Rattle.hb_model.specs.Shapes.{Hint, finish_calls}
use Rattle.hb_model.specs.State.{State, Spread, spread_named}
use Rattle.hb_model.specs.System.{Sys}
use Rattle.hb_law.specs.RunAlone.{MovesOnly, SettlesOne, TellsRightly}
use Rattle.hb_law.specs.Turns.{TellsItself, TurnTells, finished}
use Rattle.hb_planlaws.proofs.Named.{find_holds}
use Rattle.hb_movelaws.specs.Moving.{FinishSettles, settled}
use Rattle.hb_movelaws.proofs.HintEntry.{entry_is}
use Rattle.hb_movelaws.proofs.RowCalls.{afters_of_rows, answers_of_rows}
use Rattle.hb_movelaws.proofs.Settling.{Divided, divided, put}
use Rattle.hb_movelaws.proofs.SettledSystem.{settled_sys}

finish_line : (calls : List Call) (s t : State) (table : List ℕ) (most : ℕ) (f g : Family) (r : Reply) → TurnTells calls finished r → TellsRightly table most s t f g r
finish_line calls s t table most f g (reply.Complete n) h = absurd h
finish_line calls s t table most f g (reply.Suspended turns n) h = absurd h
finish_line calls s t table most f g (reply.Moved rows group n) h = absurd h
finish_line calls s t table most f g _ h = tt

module _ (back_ends : ℕ) (family : Family) (s : State) (tx : Tx) (table : List ℕ) (most : ℕ) (p : Spread) (calls : List Call) (lines : List Reply)
    (few : back_ends ≤ 8) (sys : Sys back_ends family s) (answers : AnswersOf family calls) (named : spread_named s table ≡ Some p) (tells : Each (TurnTells calls finished) lines) where
  abbrev Settles : Hint → Type 0
  Settles h = TellsItself h → of_rows calls ≡ finish_calls tx h
      → Sys back_ends (afters family calls) (settled s h) × SettlesOne table s (settled s h) × MovesOnly table most lines s (settled s h) family (afters family calls)

  its : (bytes_eq p.name table ≡ true) × IsIn p s.layout.spreads
  its = find_holds (λ (q : Spread). bytes_eq q.name table) s.layout.spreads p named

  abbrev hint_at : ℕ → ℕ → ℕ → Hint
  hint_at group old new = record { table = p.number; group = group; old = old; new = new }

  one_settled : (group old new : ℕ) → slice_get p.entries group ≡ Some (Moving old new) → SettlesOne table s (settled s (hint_at group old new))
  one_settled group old new moving =
      let d : Divided (put p.number group new) p s.layout.spreads = divided p.number group new 1 s.layout.spreads p refl sys.state.spreads_numbered its.1 in
      let own : put p.number group new p ≡ record p { entries = slice_set p.entries group (At new) } = rw ((Decides-eqb p.number p.number).1 refl) refl in
      record {
        front = d.front;
        spread = p;
        back = d.back;
        group = group;
        old = old;
        new = new;
        named = (bytes_eq-Decides p.name table).0 its.0;
        before = d.before;
        was_moving = moving;
        after = d.after ∙ ap (λ z. d.front ++ z ∷ d.back) own;
        same_areas = refl;
      }

  settles_at : (group old new : ℕ) → Settles (hint_at group old new)
  settles_at group old new back is =
      let rows : AnswersOf family (finish_calls tx (hint_at group old new)) = subst (AnswersOf family) is (answers_of_rows family calls answers) in
      let moving : slice_get p.entries group ≡ Some (Moving old new) = entry_is back_ends family s few sys p its.1 group (Moving old new) back rows.0 in
      let behind : afters family calls ≡ afters family (finish_calls tx (hint_at group old new)) = afters_of_rows family calls ∙ ap (afters family) is in
      let one : SettlesOne table s (settled s (hint_at group old new)) = one_settled group old new moving in (
        subst (λ f. Sys back_ends f (settled s (hint_at group old new))) (sym behind) (settled_sys back_ends family s sys p its.1 group old new moving rows.1.0),
        one,
        record {
          same_tables = refl;
          layout = inr one;
          tells = Each-of (TurnTells calls finished) (TellsRightly table most s (settled s (hint_at group old new)) family (afters family calls)) lines
              (finish_line calls s (settled s (hint_at group old new)) table most family (afters family calls)) tells;
        },
      )

  settles : (h : Hint) → p.number ≡ h.table → Settles h
  settles h e = subst Settles (λ i. record { table = e i; group = h.group; old = h.old; new = h.new }) (settles_at h.group h.old h.new)

pub finish_settles : FinishSettles
finish_settles back_ends family s tx table most h p calls lines few sys answers named number back is tells =
    settles back_ends family s tx table most p calls lines few sys answers named tells h number back is
