-- A list from a position on.
use Rattle.std.proofs.Common.{◌≡◌, ℕ, zero, suc, ◌+◌, List, [], ◌∷◌, drop, refl, add-one}
use Rattle.std.specs.Prelude.{MatchOption, slice_get}

pub by_position : {A : Type 0} (xs : List A) (i : ℕ) → MatchOption (slice_get xs i) (drop i xs ≡ []) (λ a. drop i xs ≡ a ∷ drop (i + 1) xs)
by_position [] zero = refl
by_position [] (suc i) = refl
by_position (x ∷ xs) zero = refl
by_position (x ∷ xs) (suc i) = let h = by_position xs i in rw (add-one (suc i)) (rw (add-one i) at h)
