-- A table that a line shows complete is balanced at that number.
use Rattle.std.proofs.Common.{◌≡◌, ◌⊎◌, ◌∙◌, ℕ, ◌+◌, List, [], ◌∷◌, ◌++◌, Some, ap, append_assoc, arith, inl, inr, length, subst, sym}
use Rattle.std.specs.Prelude.{IsTrue, not, slice_get}
use Rattle.std.specs.Ordering.{nat_cmp}
use Rattle.std.proofs.lemmas.Bool.{false≢true}
use Rattle.hb_types.specs.declared.change.Stored.{Stored}
use Rattle.hb_types.specs.declared.names.Number.{Number}
use Rattle.hb_types.specs.declared.names.Tx.{Tx}
use Rattle.hb_types.specs.declared.trail.Call.{Call}
use Rattle.hb_types.specs.Lists.{Ascends, Has, IsIn}
use Rattle.hb_types.proofs.Ascending.{Has-back, Has-front, in_Each}
use Rattle.hb_loglaws.proofs.Members.{found, in_append}
use Rattle.hb_model.specs.declared.reply.Reply.{Reply}
use Rattle.hb_model.specs.declared.reply.Reply.TheVariants as reply
use Rattle.hb_model.specs.Answers.{AnswersOf, HasAsked, afters, is_decide, of_rows}
use Rattle.hb_model.specs.Items.{Item, turn}
use Rattle.hb_model.specs.Shapes.{check_calls}
use Rattle.hb_model.specs.State.{State}
use Rattle.hb_model.specs.System.{Sys}
use Rattle.hb_disks.specs.Balanced.{Balanced}
use Rattle.hb_disks.specs.Disks.{written}
use Rattle.hb_disks.specs.Images.{decided, family, family_below}
use Rattle.hb_disks.specs.Redo.{Decided}
use Rattle.hb_disks.specs.Says.{below}
use Rattle.hb_disks.specs.StandsFor.{AreLogs, back_ends}
use Rattle.hb_law.specs.Callers.{WasDecided}
use Rattle.hb_law.specs.Composition.{IsComplete, Together, World}
use Rattle.hb_law.specs.Histories.{Labelled}
use Rattle.hb_law.specs.Transactions.{IsRightTxn, IsTxnOf, Txn, caller_of}
use Rattle.hb_law.specs.Turns.{IsNumberTold, IsRightTurn, IsTurn, TurnTells, Turned, batch, check, checked, finish, finished, moved, tells_decision, tells_moving}
use Rattle.hb_movelaws.specs.Moving.{CheckTells}
use Rattle.hb_parts.specs.Txns.{HasItems, Itemed}
use Rattle.hb_parts.specs.Whole.{Chained, CompletesAreBalanced}
use Rattle.hb_whose.proofs.Parts.{stands_at}
use Rattle.hb_whose.proofs.Trailing.{got}
use Rattle.hb_checks.proofs.Checks.{begins_here, few_back_ends, in_chain, one_calls, only_item, own_in}
use Rattle.hb_checks.proofs.TurnDecisions.{Laws, turn_decided}
use Rattle.hb_turns.proofs.Home.{balanced_table, below_with}
use Rattle.hb_turns.proofs.Turns.{asked_or_not, complete_is, right_turn}

-- what a turn was of which a line says COMPLETE: a check that was decided and found no group Moving
record WasWhole (table : List ℕ) (calls : List Call) (n : ℕ) : Type 0 where
  tx : Tx
  number : ℕ
  names : List Stored
  entries : List Stored
  rows : of_rows calls ≡ check_calls tx number names entries
  told : IsNumberTold names table number
  was_decided : WasDecided n calls
  settled : IsTrue (not (tells_moving entries))

whole_check : (before : List Item) (place : ℕ) (table : List ℕ) (most : ℕ) (calls : List Call) (number : Number) (w : Turned) → IsTurn before place table most calls w
    → TurnTells calls w (reply.Complete number) → WasWhole table calls number.0
whole_check before place table most calls number (checked es) (check tx n names entries is told locks) h =
    record { tx = tx; number = n; names = names; entries = entries; rows = is; told = told; was_decided = h.0; settled = h.1 }
whole_check before place table most calls number (moved group count) (batch tx hint keys itself is hinted of_group checks locks) h = absurd h
whole_check before place table most calls number finished (finish tx hint itself is checks locks) h = absurd h

complete_whole : (before : List Item) (place : ℕ) (table : List ℕ) (most : ℕ) (calls : List Call) (lines : List Reply) (r : Reply) (n : ℕ) → IsRightTurn before place table most calls lines
    → IsIn r lines → IsComplete r n → WasWhole table calls n
complete_whole before place table most calls lines r n right m c = by (complete_is r n c) (asked_or_not calls)
  where
    by : (number : Number) × (r ≡ reply.Complete number) × (number.0 ≡ n) → HasAsked is_decide calls ⊎ (¬ (HasAsked is_decide calls)) → WasWhole table calls n
    by k (inl a) =
        let w = right.decides a in
        subst (WasWhole table calls) k.2 (whole_check before place table most calls k.0 w.0 w.1 (subst (TurnTells calls w.0) k.1 (in_Each (TurnTells calls w.0) r lines m w.2)))
    by k (inr a) = absurd (false≢true (subst (λ z. IsTrue (not (tells_decision z))) k.1 (in_Each (λ z. IsTrue (not (tells_decision z))) r lines m (right.else_none a))))

module _ (laws : Laws) (check_tells : CheckTells) (w : World) (together : Together written w) (right : AreLogs w.logs) (chained : Chained w) (t : Txn) (i : Item) (table : List ℕ) (most n : ℕ)
    (known : IsIn t w.txns) (m : IsIn i t.items) (doing : i.doing ≡ turn table most) (lines : Has (λ r. IsComplete r n) i.lines) where
  it : Itemed w.base w.logs w.trails w.lists w.txns
  it =
      record {
        callings =
            record {
              right = together.stood.are_logs;
              nodes = together.nodes;
              merged = together.merged;
              obey = together.obey;
              operator = together.operator;
              system = together.system;
              back_ends_few = together.back_ends_few;
            };
        txns_are = together.txns;
        right = together.right;
      }

  x : IsTxnOf w.lists t
  x = in_Each (IsTxnOf w.lists) t w.txns known together.txns.each

  only : t.items ≡ i ∷ []
  only = only_item t i table most (in_Each (IsRightTxn (back_ends w.base)) t w.txns known together.right).kinds m doing

  whole : WasWhole table i.calls n
  whole =
      let r = found (λ r. IsComplete r n) i.lines lines in
      complete_whole x.front i.place table most i.calls i.lines r.0 n (right_turn w.lists t x i table most m doing) r.1 r.2

  member : IsIn i (x.front ++ x.stretch ++ x.back)
  member = Has-front (λ y. y ≡ i) (x.front ++ x.stretch) x.back (Has-back (λ y. y ≡ i) x.front x.stretch (own_in x.stretch i (subst (IsIn i) (sym (x.own ∙ sym x.items)) m)))

  fes : (trail : List Labelled) × (slice_get w.trails 0 ≡ Some trail)
  fes = let k : length w.trails ≡ length w.base.servers + 1 = together.nodes.nodes in got w.trails 0 (omega (arith, k))

  balanced : Balanced (back_ends w.logs) (family_below w.logs (n + 1)) table
  balanced =
      let f = stands_at i (x.front ++ x.stretch ++ x.back) member in
      let e = turn_decided laws w.base w.logs w.trails w.lists w.txns it right fes.0 fes.1 (caller_of t.owner) f.front i f.back (x.parts ∙ ap (λ l. Some l) f.parts) t known
      (begins_here w.lists t i x only) n whole.was_decided in
      let later : IsIn e.d chained.further = elim (in_append e.d (decided w.base) chained.further (subst (IsIn e.d) chained.grows e.is.known)) [ inl b ↦ absurd (e.is_new b) | inr j ↦ j ] in
      let c = in_chain w.logs w.txns (decided w.base) chained.start chained.further chained.last e.d chained.chain chained.at_start later in
      at_step e.d e.is.number c.done c.rest
      (chained.grows ∙ ap (λ l. decided w.base ++ l) c.parts ∙ sym (append_assoc (decided w.base) c.done (e.d ∷ c.rest)))
      c.before c.at_before (λ bs p. e.is.has (decided w.base ++ c.done) bs p)
    where
      at_step : (d : Decided) → d.number ≡ n → (done rest : List Decided) → decided w.logs ≡ (decided w.base ++ done) ++ d ∷ rest → (s : State)
          → Sys (back_ends w.logs) (family w.logs (decided w.base ++ done)) s
          → ((bs : List Decided) → decided w.logs ≡ (decided w.base ++ done) ++ d ∷ bs → HasItems w.logs w.txns (decided w.base ++ done) d t)
          → Balanced (back_ends w.logs) (family_below w.logs (n + 1)) table
      at_step d number done rest parts s sys of =
          let has = of rest parts in
          let answers = subst (AnswersOf (family w.logs (decided w.base ++ done))) (one_calls t i only) has.rows.answers in
          let k = check_tells (back_ends w.logs) (family w.logs (decided w.base ++ done)) s whole.tx table most whole.number whole.names whole.entries i.calls []
          (few_back_ends w.base w.logs together.nodes.same together.back_ends_few.1) sys answers whole.rows whole.told tt in
          let below_is : below (n + 1) (decided w.logs) ≡ (decided w.base ++ done) ++ d ∷ [] =
          ap (λ z. below (z + 1) (decided w.logs)) (sym number) ∙ ap (below (d.number + 1)) parts
          ∙ below_with d (decided w.base ++ done) rest (subst (Ascends (λ a b. nat_cmp a.number b.number)) parts right.decisions.ascend) in
          let rows_are : family_below w.logs (n + 1) ≡ family w.logs (decided w.base ++ done) =
          ap (family w.logs) below_is ∙ sym has.rows.after ∙ ap (afters (family w.logs (decided w.base ++ done))) (one_calls t i only) ∙ k.0 in
          subst (λ g. Balanced (back_ends w.logs) g table) (sym rows_are)
          (balanced_table (back_ends w.logs) (family w.logs (decided w.base ++ done)) s table k.1.spread sys k.1.named (subst (λ b. IsTrue (not b)) k.1.moving whole.settled))

pub balanced_at_completes : Laws → CheckTells → CompletesAreBalanced
balanced_at_completes laws check_tells w together right chained t i table most n known m doing lines = balanced laws check_tells w together right chained t i table most n known m doing lines
