-- What is right of a turn, and what it asked and told.
use Rattle.std.proofs.Common.{◌≡◌, ◌⊎◌, ◌∙◌, ℕ, false, List, [], ◌∷◌, ◌++◌, ap, inl, inr, refl, subst, sym}
use Rattle.std.specs.Prelude.{IsTrue}
use Rattle.std.proofs.lemmas.Bool.{false≢true}
use Rattle.hb_types.specs.declared.names.Number.{Number}
use Rattle.hb_types.specs.declared.trail.Call.{Call}
use Rattle.hb_types.specs.Lists.{IsIn}
use Rattle.hb_types.proofs.Ascending.{in_Each}
use Rattle.hb_types.proofs.PutLaws.{by_test}
use Rattle.hb_loglaws.proofs.Members.{Has-in}
use Rattle.hb_model.specs.declared.reply.Reply.{Reply}
use Rattle.hb_model.specs.declared.reply.Reply.TheVariants as reply
use Rattle.hb_model.specs.Answers.{HasAsked, is_decide}
use Rattle.hb_model.specs.Items.{Doing, Item, turn}
use Rattle.hb_disks.specs.Redo.{Decided}
use Rattle.hb_law.specs.Composition.{IsComplete}
use Rattle.hb_law.specs.Transactions.{IsTxnOf, Txn, TurnIsRight}
use Rattle.hb_law.specs.Turns.{IsRightTurn}
use Rattle.hb_parts.specs.Txns.{AreDecidedCalls}
use Rattle.hb_whose.proofs.Parts.{is_there}

turn_is : (before : List Item) (place : ℕ) (w : Doing) (calls : List Call) (lines : List Reply) (table : List ℕ) (most : ℕ) → w ≡ turn table most
    → TurnIsRight before (record { place = place; doing = w; calls = calls; lines = lines }) → IsRightTurn before place table most calls lines
turn_is before place w calls lines table most e h = subst (λ z. TurnIsRight before (record { place = place; doing = z; calls = calls; lines = lines })) e h

-- a transaction's turn is right, with the items before it
pub right_turn : (lists : List (List Item)) (t : Txn) (x : IsTxnOf lists t) (i : Item) (table : List ℕ) (most : ℕ) → IsIn i t.items → i.doing ≡ turn table most
    → IsRightTurn x.front i.place table most i.calls i.lines
right_turn lists t x i table most m e = turn_is x.front i.place i.doing i.calls i.lines table most e (in_Each (TurnIsRight x.front) i t.items m x.turns)

-- the calls of a decided transaction have its Decide
pub has_decide : (d : Decided) (calls : List Call) → AreDecidedCalls d calls → HasAsked is_decide calls
has_decide d calls c = subst (HasAsked is_decide) (sym c.parts) (Has-in (λ y. IsTrue (is_decide y.request)) c.decide (c.front ++ c.decide ∷ c.back) (is_there c.decide c.front c.back) (ap is_decide c.asked))

pub asked_or_not : (calls : List Call) → HasAsked is_decide calls ⊎ (¬ (HasAsked is_decide calls))
asked_or_not [] = inr (λ h. h)
asked_or_not (c ∷ cs) = by_test (is_decide c.request) (λ t. inl (inl t)) (λ f. later f (asked_or_not cs))
  where
    later : is_decide c.request ≡ false → HasAsked is_decide cs ⊎ (¬ (HasAsked is_decide cs)) → HasAsked is_decide (c ∷ cs) ⊎ (¬ (HasAsked is_decide (c ∷ cs)))
    later f (inl h) = inl (inr h)
    later f (inr n) = inr (λ h. none h)
      where
        none : HasAsked is_decide (c ∷ cs) → ⊥
        none (inl t) = false≢true (sym f ∙ t)
        none (inr h) = n h

-- a line COMPLETE is one, with its number
pub complete_is : (r : Reply) (n : ℕ) → IsComplete r n → (number : Number) × (r ≡ reply.Complete number) × (number.0 ≡ n)
complete_is (reply.Complete number) n h = (number, refl, h)
complete_is r n h = absurd h
