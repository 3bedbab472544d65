-- Who waits, in the order in which the waits began.
use Rattle.std.specs.Prelude.{ℕ, ◌==◌, Bool, true, false, not, List, [], ◌∷◌, ◌++◌, filter}

-- whose wait begins stands last, and whose wait is over doesn't stand there
abbrev pub waiters_after : List ℕ → ℕ → Bool → Bool → List ℕ
waiters_after ws place false true = ws ++ place ∷ []
waiters_after ws place true false = filter (λ w. not (w == place)) ws
waiters_after ws place _ _ = ws
