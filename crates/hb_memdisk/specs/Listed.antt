-- Which calls of a device in memory are to fail.
use Rattle.std.specs.Prelude.{ℕ, Bool, ◌==◌, List}
use Rattle.std.specs.List.{list_any}

-- a call with this number is to fail
abbrev pub is_listed : ℕ → List ℕ → Bool
is_listed number failing = list_any (λ k. k == number) failing
