-- Tokens and blanks make up a line.
use Rattle.std.specs.Prelude.{ℕ, suc, ◌+◌, ◌≡◌, ◌<◌, ◌≤◌, ◌⊎◌, true, List, [], ◌∷◌, ◌++◌, length, None}
use Rattle.std.specs.List.{All}
use Rattle.hb_sqltoken.specs.declared.token.Token.{Token}
use Rattle.hb_sqltoken.specs.declared.token.Token.TheVariants as token
use Rattle.hb_sqltoken.specs.declared.token.Placed.{Placed}
use Rattle.hb_sqltoken.specs.Kinds.{is_digit, is_letter, is_blank, begins_with}
use Rattle.hb_sqltoken.specs.Tokens.{quoted, placed}
use Rattle.hb_sqltoken.specs.Spellings.{IsWordLike, Spells}

-- the bytes are one bad token in front of the rest of the line
pub data IsBad : List ℕ → List ℕ → Type 0 where
  long_number : {w rest : List ℕ} → All (λ c. is_digit c ≡ true) w → 19 < length w → IsBad w rest
  joined : {w rest : List ℕ} → All (λ c. is_digit c ≡ true) w → begins_with is_letter rest ≡ true → IsBad w rest
  long_name : {w rest : List ℕ} → IsWordLike w → 30 < length w → IsBad w rest
  open_text : {s : List ℕ} → quoted s ≡ None → IsBad (39 ∷ s) []
  stray : {b : ℕ} {rest : List ℕ} → ((t : Token) (s : List ℕ) → Spells t (b ∷ s) → ⊥) → IsBad (b ∷ []) rest

abbrev pub IsSpelt : Token → List ℕ → List ℕ → Type 0
IsSpelt t w rest = Spells t w ⊎ ((t ≡ token.Bad) × IsBad w rest)

-- no token is spelled by more bytes at this place
abbrev pub IsLongest : List ℕ → List ℕ → Type 0
IsLongest w rest = (t : Token) (front back : List ℕ) → Spells t front → front ++ back ≡ w ++ rest → length front ≤ length w

pub record IsToken (t : Token) (w rest : List ℕ) : Type 0 where
  pub some : 1 ≤ length w
  pub spelt : IsSpelt t w rest
  pub longest : IsLongest w rest

-- from a place on, tokens at their places and blanks between them are the line's bytes, in order and without a gap
pub data MakeUp : List Placed → ℕ → List ℕ → Type 0 where
  nothing : {place : ℕ} → MakeUp [] place []
  blank : {ts : List Placed} {place b : ℕ} {s : List ℕ} → is_blank b ≡ true → MakeUp ts (suc place) s → MakeUp ts place (b ∷ s)
  piece : {ts : List Placed} {t : Token} {place : ℕ} {w rest : List ℕ} → IsToken t w rest → MakeUp ts (place + length w) rest → MakeUp (placed place t ∷ ts) place (w ++ rest)

-- places ascend from a place on, below an end
abbrev pub Ascend : ℕ → ℕ → List Placed → Type 0
Ascend from end [] = Unit {0}
Ascend from end (t ∷ ts) = (from ≤ t.place) × (t.place < end) × Ascend (suc t.place) end ts
