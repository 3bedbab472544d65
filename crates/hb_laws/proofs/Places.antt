-- The order of places is total, and says which are equal.
use Rattle.std.proofs.Common.{◌≡◌, refl}
use Rattle.std.specs.Prelude.{◌<◌, ◌<ℤ◌, ℕ, ℤ}
use Rattle.std.specs.Cmp.{IsTotalOrder}
use Rattle.std.specs.Ordering.{nat_cmp, int_cmp, ordering_then, MatchOrdering}
use Rattle.std.specs.declared.cmp.Ordering.{Ordering}
use Rattle.std.specs.declared.cmp.Ordering.TheVariants.{Less, Equal, Greater}
use Rattle.std.proofs.lemmas.Cmp.{nat_cmp_total, int_cmp_total, then_total, on_total, ranked, int_ranked}
use Rattle.hb_types.specs.declared.change.Stored.{Stored}
use Rattle.hb_types.specs.declared.places.Place.{Place}
use Rattle.hb_types.specs.declared.places.Space.{Space}
use Rattle.hb_types.specs.Places.{space_cmp, place_cmp}

pub space_total : IsTotalOrder space_cmp
space_total = then_total (on_total (λ (s : Space). s.area) nat_cmp_total) (on_total (λ (s : Space). s.table) nat_cmp_total)

pub place_total : IsTotalOrder place_cmp
place_total =
    then_total (on_total (λ (p : Place). p.space) space_total)
    (then_total (on_total (λ (p : Place). p.group) nat_cmp_total) (on_total (λ (p : Place). p.key) int_cmp_total))

pub stored_total : IsTotalOrder (λ (a b : Stored). place_cmp a.place b.place)
stored_total = on_total (λ (r : Stored). r.place) place_total

-- ---- equal

then_equal : (o p : Ordering) → ordering_then o p ≡ Equal → (o ≡ Equal) × (p ≡ Equal)
then_equal Less p e = absurd (different e)
  where
    different : Less ≡ Equal → ⊥
    different e = cc
then_equal Equal p e = (refl, e)
then_equal Greater p e = absurd (different e)
  where
    different : Greater ≡ Equal → ⊥
    different e = cc

nat_at : (x y : ℕ) (o : Ordering) → MatchOrdering o (x < y) (x ≡ y) (y < x) → o ≡ Equal → x ≡ y
nat_at x y Less m e = cc
nat_at x y Equal m e = m
nat_at x y Greater m e = cc

int_at : (x y : ℤ) (o : Ordering) → MatchOrdering o (x <ℤ y) (x ≡ y) (y <ℤ x) → o ≡ Equal → x ≡ y
int_at x y Less m e = cc
int_at x y Equal m e = m
int_at x y Greater m e = cc

nat_equal : (x y : ℕ) → nat_cmp x y ≡ Equal → x ≡ y
nat_equal x y e = nat_at x y (nat_cmp x y) (ranked x y (nat_cmp x y) refl) e

int_equal : (x y : ℤ) → int_cmp x y ≡ Equal → x ≡ y
int_equal x y e = int_at x y (int_cmp x y) (int_ranked x y (int_cmp x y) refl) e

space_equal : (a b : Space) → space_cmp a b ≡ Equal → a ≡ b
space_equal a b e =
    let h = then_equal (nat_cmp a.area b.area) (nat_cmp a.table b.table) e in
    let x = nat_equal a.area b.area h.0 in
    let y = nat_equal a.table b.table h.1 in
    λ i. record { area = x i; table = y i }

pub place_equal : (a b : Place) → place_cmp a b ≡ Equal → a ≡ b
place_equal a b e =
    let h = then_equal (space_cmp a.space b.space) (ordering_then (nat_cmp a.group b.group) (int_cmp a.key b.key)) e in
    let k = then_equal (nat_cmp a.group b.group) (int_cmp a.key b.key) h.1 in
    let s = space_equal a.space b.space h.0 in
    let g = nat_equal a.group b.group k.0 in
    let z = int_equal a.key b.key k.1 in
    λ i. record { space = s i; group = g i; key = z i }
