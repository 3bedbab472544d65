-- A name that has its place is found there again.
use Rattle.std.proofs.Common.{◌≡◌, ◌⊎◌, ℕ, zero, suc, ◌<◌, ◌≤◌, List, [], ◌∷◌, ◌++◌, length, refl, sym, ◌∙◌, subst, arith, inl, inr}
use Rattle.std.specs.Prelude.{Some, slice_get}
use Rattle.std.proofs.lemmas.Bool.{cases_lt}
use Rattle.hb_stepper.specs.Names.{IsPlaceOf, IsNew, Named}
use Rattle.hb_stepper.specs.Running.{Running}

-- ---- a name behind the others

last_at : (names : List (List ℕ)) (name : List ℕ) → slice_get (names ++ name ∷ []) (length names) ≡ Some name
last_at [] name = refl
last_at (n ∷ names) name = last_at names name

front_at : (names : List (List ℕ)) (name : List ℕ) (k : ℕ) → k < length names → slice_get (names ++ name ∷ []) k ≡ slice_get names k
front_at [] name k within = absurd (omega arith)
front_at (n ∷ names) name zero within = refl
front_at (n ∷ names) name (suc k) within = front_at names name k (omega arith)

place_behind : (names : List (List ℕ)) (name : List ℕ) → IsNew names name → IsPlaceOf (names ++ name ∷ []) name (length names)
place_behind names name unknown = record {
  at = last_at names name;
  first = λ k before is. unknown k (sym (front_at names name k before) ∙ is);
}

-- ---- its place

has_place : (old mid : Running) (name : List ℕ) (place : ℕ) → Named old name place mid → IsPlaceOf mid.names name place
has_place old mid name place (inl known) = subst (λ (r : Running). IsPlaceOf r.names name place) (sym known.1) known.0
has_place old mid name place (inr added) =
    subst (λ (ns : List (List ℕ)). IsPlaceOf ns name place) (sym added.names) (subst (λ (p : ℕ). IsPlaceOf (old.names ++ name ∷ []) name p) (sym added.last) (place_behind old.names name added.unknown))

one_place : (names : List (List ℕ)) (name : List ℕ) (p q : ℕ) → IsPlaceOf names name p → IsPlaceOf names name q → q ≡ p
one_place names name p q first second = by (cases_lt p q) (cases_lt q p)
  where
    by : (p < q) ⊎ (q ≤ p) → (q < p) ⊎ (p ≤ q) → q ≡ p
    by (inl before) other = absurd (second.first p before first.at)
    by (inr least) (inl before) = absurd (first.first q before second.at)
    by (inr least) (inr most) = omega (arith, least, most)

pub named_again : (old mid new : Running) (name : List ℕ) (p q : ℕ) → Named old name p mid → Named mid name q new → (q ≡ p) × (new ≡ mid)
named_again old mid new name p q first (inl known) = (one_place mid.names name p q (has_place old mid name p first) known.0, known.1)
named_again old mid new name p q first (inr added) = absurd (added.unknown p (has_place old mid name p first).at)
