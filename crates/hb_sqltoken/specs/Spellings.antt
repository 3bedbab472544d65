-- How each token is spelled.
use Rattle.std.specs.Prelude.{ℕ, ◌≡◌, ◌≤◌, true, if◌then◌else◌, List, [], ◌∷◌, ◌++◌, length, Some, None, codes}
use Rattle.std.specs.List.{All}
use Rattle.hb_model.specs.declared.condition.Op.{Op}
use Rattle.hb_model.specs.declared.condition.Op.TheVariants as op
use Rattle.hb_sqltoken.specs.declared.token.Token.{Token}
use Rattle.hb_sqltoken.specs.declared.token.Token.TheVariants as token
use Rattle.hb_sqltoken.specs.Kinds.{is_digit, is_letter, in_name, is_quote}
use Rattle.hb_sqltoken.specs.Words.{word_of}
use Rattle.hb_sqltoken.specs.Tokens.{decimal}

-- a text between its quotes
abbrev pub doubled : List ℕ → List ℕ
doubled [] = []
doubled (b ∷ s) = if is_quote b then b ∷ b ∷ doubled s else b ∷ doubled s

-- a letter and further letters, digits and underscores
abbrev pub IsWordLike : List ℕ → Type 0
IsWordLike [] = ⊥
IsWordLike (b ∷ s) = (is_letter b ≡ true) × All (λ c. in_name c ≡ true) s

abbrev pub op_text : Op → List ℕ
op_text op.Eq = codes "="
op_text op.Ne = codes "<>"
op_text op.Lt = codes "<"
op_text op.Le = codes "<="
op_text op.Gt = codes ">"
op_text op.Ge = codes ">="

-- the bytes are a spelling of the token; a bad one has none
abbrev pub Spells : Token → List ℕ → Type 0
Spells (token.Number n) s = All (λ c. is_digit c ≡ true) s × (1 ≤ length s) × (length s ≤ 19) × (decimal 0 s ≡ n)
Spells (token.Text t) s = s ≡ 39 ∷ (doubled t ++ 39 ∷ [])
Spells (token.Name t) s = (s ≡ t) × IsWordLike s × (length s ≤ 30) × (word_of s ≡ None)
Spells (token.Word w) s = word_of s ≡ Some w
Spells token.Open s = s ≡ codes "("
Spells token.Close s = s ≡ codes ")"
Spells token.Comma s = s ≡ codes ","
Spells token.Colon s = s ≡ codes ":"
Spells token.Semicolon s = s ≡ codes ";"
Spells token.Star s = s ≡ codes "*"
Spells token.Plus s = s ≡ codes "+"
Spells token.Minus s = s ≡ codes "-"
Spells (token.Compare o) s = s ≡ op_text o
Spells token.Bad s = ⊥
