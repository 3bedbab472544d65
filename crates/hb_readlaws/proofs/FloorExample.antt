-- If a commit of a branch that only read did not raise the floor, a read would not be in the order of numbers.
use Rattle.std.proofs.Common.{◌≡◌, ◌≢◌, ℕ, List, [], ◌∷◌, ◌++◌, Some, None, refl, ◌∙◌, inl, inr, lit<, arith}
use Rattle.hb_types.specs.declared.change.LogItem.{LogItem}
use Rattle.hb_types.specs.declared.change.LogItem.TheVariants as item
use Rattle.hb_types.specs.declared.lock.Held.{Held}
use Rattle.hb_types.specs.declared.lock.Mode.{Mode}
use Rattle.hb_types.specs.declared.lock.Mode.TheVariants as mode
use Rattle.hb_types.specs.declared.names.Number.{Number}
use Rattle.hb_types.specs.declared.names.Tx.{Tx}
use Rattle.hb_types.specs.declared.places.Path.TheVariants as path
use Rattle.hb_types.specs.Lists.{EachBehind}
use Rattle.hb_types.specs.Put.{lookup}
use Rattle.hb_disks.specs.LogRules.{NumOK, LocksFit}
use Rattle.hb_disks.specs.Redo.{Decided, redo}
use Rattle.hb_disks.specs.Says.{held, below}
use Rattle.hb_disks.specs.StandsFor.{AreDecisions}
use Rattle.hb_serverlaws.proofs.ServerExample.{change, place, row}

abbrev tx : ℕ → Tx
tx n = record { 0 = n }

abbrev number : ℕ → Number
number n = record { 0 = n }

abbrev locked : Mode → Mode → List Held
locked above m =
    record { path = path.Whole place.space; mode = above } ∷ record { path = path.Group place.space 0; mode = above } ∷ record { path = path.Key place; mode = m } ∷ []

-- transaction 1 reads the place and commits as 5
abbrev front : List LogItem
front = item.Prepare (tx 1) (number 0) (locked mode.IS mode.S) [] ∷ item.Commit (tx 1) (number 5) ∷ []

-- transaction 2 votes behind it, with a floor that is not raised, and commits its change there as 3
abbrev back : List LogItem
back = item.Prepare (tx 2) (number 0) (locked mode.IX mode.X) (change ∷ []) ∷ item.Commit (tx 2) (number 3) ∷ []

abbrev log : List LogItem
log = front ++ back

abbrev decisions : List Decided
decisions = record { tx = 2; number = 3; nodes = [] } ∷ record { tx = 1; number = 5; nodes = [] } ∷ []

apart : ◌≢◌ {A = ℕ} 2 1
apart e = omega arith

apart_back : ◌≢◌ {A = ℕ} 1 2
apart_back e = omega arith

decided_rightly : AreDecisions decisions
decided_rightly = record { ascend = (refl, tt); once = ((apart_back, tt), (tt, tt)) }

-- all numbers are above the floors of the votes
numbers_agree : NumOK log decisions
numbers_agree =
    record {
      committed = (inr (inl (refl, refl)), (inl (refl, refl), tt));
      aborted = tt;
      above = (((λ e. lit< tt), ((λ e. lit< tt), tt)), (((λ e. lit< tt), ((λ e. lit< tt), tt)), tt));
    }

locks_fit : EachBehind LocksFit [] log
locks_fit = (
  record { agree = tt; closed = (tt, ((inl refl, tt), ((inl refl, (inr (inl refl), tt)), tt))); covered = tt },
  (
    tt,
    (record { agree = tt; closed = (tt, ((inl refl, tt), ((inl refl, (inr (inl refl), tt)), tt))); covered = (inr (inr (inl refl)), tt) }, (tt, tt)),
  ),
)

-- transaction 1 read that no row is there
read : lookup place (redo []).rows ≡ None
read = refl

-- but the decisions below 5 put one there
below_five : lookup place (held log (below 5 decisions)) ≡ Some row
below_five = refl

some_none : (r : List ℕ) → None ≡ Some r → ⊥
some_none r e = cc

pub out_of_order : lookup place (redo []).rows ≡ lookup place (held log (below 5 decisions)) → ⊥
out_of_order e = some_none row (e ∙ below_five)
