-- What a line of bytes says, by its tokens, and the place of the token at which it is refused.
use Rattle.std.specs.Prelude.{◌≡◌, ℕ, ◌+◌, List, length, map, slice_get, option_map, unwrap_or}
use Rattle.hb_sqltoken.specs.declared.token.Token.{Token}
use Rattle.hb_sqltoken.specs.declared.token.Placed.{Placed}
use Rattle.hb_sqltoken.specs.Tokens.{tokens_of}
use Rattle.hb_sqlparse.specs.Grammar.{FirstDead}

-- the tokens of a line without their places
abbrev pub tokens_in : List ℕ → List Token
tokens_in line = map (λ (p : Placed). p.token) (tokens_of line)

-- the place, from 1, of the first byte of a token, and behind the last one that of the line's end
abbrev pub byte_at : List ℕ → ℕ → ℕ
byte_at line i = unwrap_or (option_map (λ (p : Placed). p.place + 1) (slice_get (tokens_of line) i)) (length line + 1)

-- The line is refused at this byte: its tokens are no line, and the first dead one begins there.
abbrev pub IsRefused : List ℕ → ℕ → Type 0
IsRefused line byte = (index : ℕ) × FirstDead (tokens_in line) index × (byte ≡ byte_at line index)
