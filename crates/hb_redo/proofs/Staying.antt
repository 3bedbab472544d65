-- A store that goes on over its disk, through several calls, and the room for changes that are made one after another.
use Rattle.std.proofs.Common.{◌≡◌, ℕ, ◌+◌, Bool, true, false, ap, arith, ◌∷◌, List, Option, Some, None, if◌then◌else◌}
use Rattle.hb_edge.specs.Images.{Image}
use Rattle.hb_types.specs.declared.change.Change.{Change}
use Rattle.hb_types.specs.declared.places.Place.{Place}
use Rattle.std.specs.Prelude.{IfSome}
use Rattle.hb_types.specs.Places.{same_place}
use Rattle.hb_types.specs.Records.{IsChange}
use Rattle.hb_types.specs.Rows.{IsRow}
use Rattle.hb_types.proofs.SamePlace.{same_place-refl}
use Rattle.hb_disks.specs.Points.{Point}
use Rattle.hb_store.specs.Meanings.{Stays, count_at}

pub stays_same : {S : Type 0} (keeps : S → Option Point → Image → Type 0) (staged : S → Image → Type 0) (s : S) → Stays keeps staged s s
stays_same keeps staged s = record { keeps_on = λ p image k. k; stands_on = λ image k. k }

pub stays_then : {S : Type 0} (keeps : S → Option Point → Image → Type 0) (staged : S → Image → Type 0) (a b c : S) → Stays keeps staged a b → Stays keeps staged b c → Stays keeps staged a c
stays_then keeps staged a b c f g = record { keeps_on = λ p image k. g.keeps_on p image (f.keeps_on p image k); stands_on = λ image k. g.stands_on image (f.stands_on image k) }

-- ---- room

pub one_here : (c : Change) (cs : List Change) → count_at c.place (c ∷ cs) ≡ count_at c.place cs + 1
one_here c cs = ap (λ b. if b then count_at c.place cs + 1 else count_at c.place cs) (same_place-refl c.place)

pub one_spent : (q : Place) (c : Change) (cs : List Change) (old new : ℕ) → old ≡ new + (if same_place q c.place then 1 else 0) → (base : ℕ) → old ≡ base + count_at q (c ∷ cs) → new ≡ base + count_at q cs
one_spent q c cs old new spent base was = by (same_place q c.place) spent was
  where
    by : (b : Bool) → old ≡ new + (if b then 1 else 0) → old ≡ base + (if b then count_at q cs + 1 else count_at q cs) → new ≡ base + count_at q cs
    by true spent was = omega (arith, spent, was)
    by false spent was = omega (arith, spent, was)

-- ---- a change has a row that a store may take

pub fits_row : (c : Change) → IsChange c → IfSome c.row IsRow
fits_row c f = by c.row f
  where
    by : (o : Option (List ℕ)) → IsChange (record { place = c.place; row = o }) → IfSome o IsRow
    by None f = tt
    by (Some row) f = f.1
