-- The words of a command.
use Rattle.std.specs.Prelude.{◌≡◌, ℕ, ◌+◌, ◌≤◌, All, List, [], ◌∷◌, ◌++◌, length, codes}

-- A value of 1 to 10 digits that spells a number from 1 to 8: zeros, and then its one digit.
pub record IsCount (value : List ℕ) (n : ℕ) : Type 0 where
  pub zeros : List ℕ
  pub digits : value ≡ zeros ++ (48 + n) ∷ []
  pub are_zeros : All (λ b. b ≡ 48) zeros
  pub most_digits : length value ≤ 10
  pub least : 1 ≤ n
  pub most : n ≤ 8

-- the words are `run -b N`
abbrev pub IsRun : List (List ℕ) → ℕ → Type 0
IsRun words n = (value : List ℕ) × (words ≡ codes "run" ∷ codes "-b" ∷ value ∷ []) × IsCount value n
