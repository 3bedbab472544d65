-- What a line of a script says, by the grammar of lines.
use Rattle.std.specs.Prelude.{◌≡◌, ◌⊎◌, ℕ, ◌≤◌, Bool, true, false, ◌||◌, List, [], ◌∷◌, length, nat_eq, codes}
use Rattle.std.specs.List.{list_all, starts_with}
use Rattle.hb_model.specs.declared.script.Item.TheVariants as item
use Rattle.hb_sqltoken.specs.Kinds.{is_blank}
use Rattle.hb_sqlparse.specs.Grammar.{IsLine}
use Rattle.hb_sqlparse.specs.Lines.{tokens_in, IsRefused}
use Rattle.hb_sqlparse.specs.PlainLines.{IsPlainItem}
use Rattle.hb_lines.specs.declared.said.Said.{Said}
use Rattle.hb_lines.specs.declared.said.Said.TheVariants as said

-- the most bytes of a line
abbrev pub most_bytes : ℕ
most_bytes = 8192

-- a line of blanks, and one that begins with -- or #
abbrev pub is_idle : List ℕ → Bool
is_idle line = list_all is_blank line || (starts_with nat_eq line (codes "--") || starts_with nat_eq line (codes "#"))

-- a line of the grammar, or a refusal at the first token that begins no line
abbrev pub Reads : List ℕ → Said → Type 0
Reads line (said.Item i) = IsLine i (tokens_in line)
Reads line (said.Syntax byte) = IsRefused line byte

-- what a line of at most 8,192 bytes says
pub record Says (line : List ℕ) (s : Said) : Type 0 where
  pub few : length line ≤ most_bytes
  pub says : ((is_idle line ≡ true) × (s ≡ said.Item item.Blank)) ⊎ ((is_idle line ≡ false) × Reads line s)

-- each line with what it says
abbrev pub SayAll : List (List ℕ) → List Said → Type 0
SayAll [] [] = Unit {0}
SayAll (line ∷ lines) (s ∷ saids) = Says line s × SayAll lines saids
SayAll [] (s ∷ saids) = ⊥
SayAll (line ∷ lines) [] = ⊥

-- valid names and plain work
abbrev pub IsPlainSaid : Said → Type 0
IsPlainSaid (said.Item i) = IsPlainItem i
IsPlainSaid (said.Syntax byte) = Unit {0}
