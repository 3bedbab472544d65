-- A sum of sizes, as far as it was counted.
use Rattle.std.proofs.Common.{◌≡◌, ℕ, ◌+◌, ◌≤◌, ◌<◌, true, List, length, take, get_or, sym, ◌∙◌, ap, subst, arith}
use Rattle.std.specs.Prelude.{nat_lt, sum_by}
use Rattle.std.proofs.lemmas.Bool.Decides.{nat_tests}
use Rattle.std.proofs.lemmas.List.Sums.{sum_by_more, sum_by_more_le}

above : (m a b : ℕ) → a ≤ b → nat_lt m a ≡ true → nat_lt m b ≡ true
above m a b le is = grind (arith, nat_tests)

pub over : {X : Type 0} (f : X → ℕ) (xs : List X) (i : ℕ) (x : X) (m before b : ℕ) → i < length xs → x ≡ get_or xs i x
    → b ≡ before + sum_by f (take i xs) → nat_lt m (b + f x) ≡ true → nat_lt m (before + sum_by f xs) ≡ true
over f xs i x m before b lt is counted many =
    let le : sum_by f (take i xs) + f x ≤ sum_by f xs = subst (λ y. sum_by f (take i xs) + f y ≤ sum_by f xs) (sym is) (sum_by_more_le f xs i x lt) in
    above m (b + f x) (before + sum_by f xs) (omega (arith, le, counted)) many

pub one_more : {X : Type 0} (f : X → ℕ) (xs : List X) (i : ℕ) (x : X) (before b after : ℕ) → i < length xs → x ≡ get_or xs i x
    → b ≡ before + sum_by f (take i xs) → after ≡ b + f x → after ≡ before + sum_by f (take (i + 1) xs)
one_more f xs i x before b after lt is counted more =
    let sum : sum_by f (take (i + 1) xs) ≡ sum_by f (take i xs) + f x = sum_by_more f xs i x lt ∙ ap (λ y. sum_by f (take i xs) + f y) (sym is) in
    omega (arith, sum, counted, more)
