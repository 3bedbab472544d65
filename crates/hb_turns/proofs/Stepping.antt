-- The step of a turn.
use Rattle.std.proofs.Common.{◌≡◌, ◌∙◌, ℕ, ◌≤◌, List, [], ◌∷◌, ◌++◌, Some, ap, inl, inr, map, refl, subst, sym}
use Rattle.std.specs.Prelude.{slice_get}
use Rattle.hb_types.specs.declared.trail.Call.{Call}
use Rattle.hb_types.specs.Lists.{Each, IsIn}
use Rattle.hb_types.proofs.Ascending.{Each-in, Has-back, Has-front, in_Each}
use Rattle.hb_model.specs.Answers.{AnswersOf, afters}
use Rattle.hb_model.specs.Families.{Family}
use Rattle.hb_model.specs.Items.{Item, calls_of, turn}
use Rattle.hb_model.specs.State.{State}
use Rattle.hb_model.specs.System.{Sys}
use Rattle.hb_disks.specs.Images.{Logs, decided, family}
use Rattle.hb_disks.specs.Redo.{Decided}
use Rattle.hb_disks.specs.StandsFor.{AreLogs, StateAfter, back_ends}
use Rattle.hb_law.specs.Histories.{Labelled, Trails}
use Rattle.hb_law.specs.RunAlone.{MovesOnly}
use Rattle.hb_law.specs.Transactions.{IsTxnOf, Txn, caller_of, own_items}
use Rattle.hb_law.specs.Turns.{IsTurn, TurnTells, Turned, batch, check, checked, finish, finished, moved}
use Rattle.hb_movelaws.specs.Moving.{BatchMoves, CheckTells, FinishSettles, settled}
use Rattle.hb_parts.specs.Turning.{ChecksWereSteps, HintsAreFew, Reached, TurnsStep}
use Rattle.hb_parts.specs.Txns.{AreDecidedCalls, HasItems, Itemed}
use Rattle.hb_checks.proofs.Checks.{few_back_ends, one_calls, own_in}
use Rattle.hb_checks.proofs.TurnDecisions.{got_calls}
use Rattle.hb_turns.proofs.Turns.{has_decide, right_turn}

pub record Laws : Type 0 where
  pub were : ChecksWereSteps
  pub few : HintsAreFew
  pub check_tells : CheckTells
  pub batch_moves : BatchMoves
  pub finish_settles : FinishSettles

calls_in : (is : List Item) (i : Item) → IsIn i is → (c : Call) → IsIn c i.calls → IsIn c (calls_of is)
calls_in [] i m c h = absurd m
calls_in (j ∷ js) i (inl e) c h = Has-front (λ y. y ≡ c) j.calls (calls_of js) (subst (λ z. IsIn c z.calls) (sym e) h)
calls_in (j ∷ js) i (inr m) c h = Has-back (λ y. y ≡ c) j.calls (calls_of js) (calls_in js i m c h)

module _ (laws : Laws) (base logs : Logs) (trails : Trails) (lists : List (List Item)) (txns : List Txn) (fes : List Labelled) (done : List Decided) (d : Decided) (s : State) (t : Txn) (i : Item)
    (table : List ℕ) (most : ℕ) (it : Itemed base logs trails lists txns) (right : AreLogs logs) (at : slice_get trails 0 ≡ Some fes) (r : Reached base logs txns done d s)
    (h : HasItems logs txns (decided base ++ done) d t) (only : t.items ≡ i ∷ []) (doing : i.doing ≡ turn table most) where
  abbrev front : List Decided
  front = decided base ++ done

  abbrev rows : Family
  rows = family logs (decided base ++ done)

  abbrev rows_after : Family
  rows_after = family logs ((decided base ++ done) ++ d ∷ [])

  abbrev Stepped : Type 0
  Stepped = (after : State) × StateAfter logs ((decided base ++ done) ++ d ∷ []) after × MovesOnly table most i.lines s after rows rows_after

  x : IsTxnOf lists t
  x = in_Each (IsTxnOf lists) t txns h.known it.txns_are.each

  few_ends : back_ends logs ≤ 8
  few_ends = few_back_ends base logs it.callings.nodes.same it.callings.back_ends_few.1

  answers : AnswersOf rows i.calls
  answers = subst (AnswersOf rows) (one_calls t i only) h.rows.answers

  left : afters rows i.calls ≡ rows_after
  left = ap (afters rows) (sym (one_calls t i only)) ∙ h.rows.after

  -- with the rows that the calls left
  stepped : (after : State) → Sys (back_ends logs) (afters rows i.calls) after → MovesOnly table most i.lines s after rows (afters rows i.calls) → Stepped
  stepped after sys moves = (after, subst (λ g. Sys (back_ends logs) g after) left sys, subst (MovesOnly table most i.lines s after rows) left moves)

  in_list : Each (λ c. IsIn c (calls_of (x.front ++ x.stretch ++ x.back))) i.calls
  in_list = Each-in (λ c. IsIn c (calls_of (x.front ++ x.stretch ++ x.back))) i.calls (calls_in (x.front ++ x.stretch ++ x.back) i member)
    where
      own : IsIn i (own_items x.stretch)
      own = subst (IsIn i) (sym (x.own ∙ sym x.items ∙ only)) (inl refl)

      member : IsIn i (x.front ++ x.stretch ++ x.back)
      member = Has-front (λ y. y ≡ i) (x.front ++ x.stretch) x.back (Has-back (λ y. y ≡ i) x.front x.stretch (own_in x.stretch i own))

  by : (w : Turned) → IsTurn x.front i.place table most i.calls w → Each (TurnTells i.calls w) i.lines → Stepped
  by (checked es) (check tx number names entries is told locks) tells =
      let k = laws.check_tells (back_ends logs) rows s tx table most number names entries i.calls i.lines few_ends r.now answers is told tells in
      stepped s (subst (λ g. Sys (back_ends logs) g s) (sym k.0) r.now) k.2
  by (moved group count) (batch tx hint keys itself is hinted of_group checks locks) tells =
      let p = laws.were base logs trails lists txns fes done d s t i.place table most hint.table it right at r h x checks in
      let short = laws.few base logs trails (map calls_of lists) (caller_of t.owner) (calls_of (x.front ++ x.stretch ++ x.back)) i.calls hint most keys it.callings
      (got_calls lists (caller_of t.owner) (x.front ++ x.stretch ++ x.back) x.parts) in_list hinted in
      let k = laws.batch_moves (back_ends logs) rows s tx table most hint p.0 keys i.calls i.lines few_ends r.now answers p.1 p.2 itself of_group short is tells in
      stepped s k.0 k.2
  by finished (finish tx hint itself is checks locks) tells =
      let p = laws.were base logs trails lists txns fes done d s t i.place table most hint.table it right at r h x checks in
      let k = laws.finish_settles (back_ends logs) rows s tx table most hint p.0 i.calls i.lines few_ends r.now answers p.1 p.2 itself is tells in
      stepped (settled s hint) k.0 k.2

  step : Stepped
  step =
      let k = (right_turn lists t x i table most (subst (IsIn i) (sym only) (inl refl)) doing).decides (has_decide d i.calls (subst (AreDecidedCalls d) (one_calls t i only) h.calls)) in
      by k.0 k.1 k.2

pub turns_step : Laws → TurnsStep
turns_step laws base logs trails lists txns fes done d s t i table most it right at r h only doing = step laws base logs trails lists txns fes done d s t i table most it right at r h only doing
