-- Kinds of bytes, and runs of them.
use Rattle.std.specs.Prelude.{ℕ, suc, Bool, false, ◌||◌, ◌&&◌, nat_le, ◌==◌, if◌then◌else◌, List, [], ◌∷◌}

unfoldable pub is_digit : ℕ → Bool
is_digit b = nat_le 48 b && nat_le b 57

unfoldable pub is_letter : ℕ → Bool
is_letter b = nat_le 65 b && nat_le b 90 || nat_le 97 b && nat_le b 122

unfoldable pub in_name : ℕ → Bool
in_name b = is_letter b || is_digit b || b == 95

-- space and tab
unfoldable pub is_blank : ℕ → Bool
is_blank b = b == 32 || b == 9

abbrev pub is_quote : ℕ → Bool
is_quote b = b == 39

-- how many bytes of a kind stand at the front
unfoldable pub run_of : (ℕ → Bool) → List ℕ → ℕ
run_of kind [] = 0
run_of kind (b ∷ s) = if kind b then suc (run_of kind s) else 0

-- whether a byte of a kind stands at the front
unfoldable pub begins_with : (ℕ → Bool) → List ℕ → Bool
begins_with kind [] = false
begins_with kind (b ∷ s) = kind b
