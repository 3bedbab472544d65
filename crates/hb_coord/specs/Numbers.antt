-- The limits of what is kept.
use Rattle.std.specs.Prelude.{◌≡◌, ℕ, Some}
use Rattle.std.specs.Ordering.{nat_cmp}
use Rattle.std.specs.BTreeMap.{BTreeMap, get}
use Rattle.hb_types.specs.Numbers.{IsNumber}

-- numbers of commits are in their limits
abbrev pub HasNumbers : BTreeMap ℕ ℕ → Type 0
HasNumbers decided = (tx n : ℕ) → get nat_cmp decided tx ≡ Some n → IsNumber n
