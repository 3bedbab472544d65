-- The tokens of a line, each with the place of its first byte, from 0.
use Rattle.std.specs.Prelude.{ℕ, zero, suc, ◌+◌, ◌-◌, ◌*◌, ◌||◌, ◌==◌, nat_le, nat_lt, if◌then◌else◌, List, [], ◌∷◌, ◌++◌, length, take, drop, Option, Some, None}
use Rattle.hb_model.specs.declared.condition.Op.TheVariants as op
use Rattle.hb_sqltoken.specs.declared.token.Word.{Word}
use Rattle.hb_sqltoken.specs.declared.token.Token.{Token}
use Rattle.hb_sqltoken.specs.declared.token.Token.TheVariants as token
use Rattle.hb_sqltoken.specs.declared.token.Placed.{Placed}
use Rattle.hb_sqltoken.specs.Kinds.{is_digit, is_letter, in_name, is_blank, is_quote, run_of, begins_with}
use Rattle.hb_sqltoken.specs.Words.{word_of}

-- the number that n and then decimal digits spell
unfoldable pub decimal : ℕ → List ℕ → ℕ
decimal n [] = n
decimal n (d ∷ s) = decimal (10 * n + (d - 48)) s

-- a run of digits and what stands behind it
unfoldable pub number_token : List ℕ → List ℕ → Token
number_token digits behind = if nat_lt 19 (length digits) || begins_with is_letter behind then token.Bad else token.Number (decimal 0 digits)

unfoldable pub name_token_as : List ℕ → Option Word → Token
name_token_as name (Some w) = token.Word w
name_token_as name None = if nat_le (length name) 30 then token.Name name else token.Bad

-- a reserved word, or a name of at most 30 bytes
unfoldable pub name_token : List ℕ → Token
name_token name = name_token_as name (word_of name)

abbrev pub with_front : List ℕ → ℕ → Option (List ℕ × ℕ) → Option (List ℕ × ℕ)
with_front front n (Some x) = Some (front ++ x.0, n + x.1)
with_front front n None = None

-- behind a text's first quote: its bytes, and how many stand up to its last quote and with it; none where it isn't closed
unfoldable pub quoted : List ℕ → Option (List ℕ × ℕ)
quoted [] = None
quoted (b ∷ []) = if is_quote b then Some ([], 1) else None
quoted (b ∷ c ∷ s) =
    if is_quote b then (if is_quote c then with_front (b ∷ []) 2 (quoted s) else Some ([], 1))
    else with_front (b ∷ []) 1 (quoted (c ∷ s))

-- a text behind its first quote; one that isn't closed is bad up to the line's end
unfoldable pub text_token_as : List ℕ → Option (List ℕ × ℕ) → Token × ℕ
text_token_as behind (Some x) = (token.Text x.0, x.1)
text_token_as behind None = (token.Bad, length behind)

unfoldable pub text_token : List ℕ → Token × ℕ
text_token behind = text_token_as behind (quoted behind)

unfoldable pub symbol_token : ℕ → List ℕ → Token × ℕ
symbol_token b behind =
    if b == 40 then (token.Open, 0) else
    if b == 41 then (token.Close, 0) else
    if b == 42 then (token.Star, 0) else
    if b == 43 then (token.Plus, 0) else
    if b == 44 then (token.Comma, 0) else
    if b == 45 then (token.Minus, 0) else
    if b == 58 then (token.Colon, 0) else
    if b == 59 then (token.Semicolon, 0) else
    if b == 61 then (token.Compare op.Eq, 0) else
    if b == 60 then (if begins_with (λ c. c == 61) behind then (token.Compare op.Le, 1) else if begins_with (λ c. c == 62) behind then (token.Compare op.Ne, 1) else (token.Compare op.Lt, 0)) else
    if b == 62 then (if begins_with (λ c. c == 61) behind then (token.Compare op.Ge, 1) else (token.Compare op.Gt, 0)) else
    (token.Bad, 0)

-- the token that begins with the byte b, and how many of the bytes behind b belong to it
unfoldable pub first_token : ℕ → List ℕ → Token × ℕ
first_token b behind =
    if is_letter b then (name_token (b ∷ take (run_of in_name behind) behind), run_of in_name behind) else
    if is_digit b then (number_token (b ∷ take (run_of is_digit behind) behind) (drop (run_of is_digit behind) behind), run_of is_digit behind) else
    if is_quote b then text_token behind else
    symbol_token b behind

abbrev pub placed : ℕ → Token → Placed
placed place t = record { place = place; token = t }

-- the tokens from a place on, where the first bytes, as many as `skip`, belong to the token before
unfoldable pub tokens_from : ℕ → ℕ → List ℕ → List Placed
tokens_from skip place [] = []
tokens_from (suc skip) place (b ∷ s) = tokens_from skip (suc place) s
tokens_from zero place (b ∷ s) =
    if is_blank b then tokens_from zero (suc place) s
    else placed place (first_token b s).0 ∷ tokens_from (first_token b s).1 (suc place) s

unfoldable pub every_token : List ℕ → List Placed
every_token line = tokens_from 0 0 line

-- so many tokens, and where more stand, one bad token in their place
unfoldable pub bounded : ℕ → List Placed → List Placed
bounded n [] = []
bounded zero (t ∷ ts) = placed t.place token.Bad ∷ []
bounded (suc n) (t ∷ ts) = t ∷ bounded n ts

-- the tokens of a line, the 513th of which is bad
unfoldable pub tokens_of : List ℕ → List Placed
tokens_of line = bounded 512 (every_token line)
