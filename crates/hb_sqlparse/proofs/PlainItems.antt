-- Lines of bytes have sane tokens, so what they say is plain.
use Rattle.std.proofs.Common.{◌≡◌, ℕ, zero, suc, ◌+◌, ◌-◌, ◌*◌, ◌^◌, ◌≤◌, arith, pos, Bool, true, false, ◌||◌, ◌==◌, nat_le, List, [], ◌∷◌, length, map, refl, sym, ap, ◌∙◌, subst, inl, inr}
use Rattle.std.proofs.lemmas.Bool.{le-leb, leb-true}
use Rattle.std.proofs.lemmas.List.Elements.{All-head, All-tail}
use Rattle.std.proofs.lemmas.List.{length-map}
use Rattle.std.proofs.lemmas.List.Sums.{list_all-from_AllPass}
use Rattle.std.proofs.Math.Nat.{mul-le-mul_right, mul_assoc, pow-succ', pow-le-pow_right}
use Rattle.std.specs.List.{All, slice_index_or}
use Rattle.hb_model.specs.Valid as valid
use Rattle.hb_model.specs.Valid.{is_name}
use Rattle.hb_model.specs.Plain.{is_short}
use Rattle.hb_model.specs.declared.script.Item.{Item}
use Rattle.hb_sqltoken.specs.declared.token.Token.{Token}
use Rattle.hb_sqltoken.specs.declared.token.Token.TheVariants as token
use Rattle.hb_sqltoken.specs.declared.token.Placed.{Placed}
use Rattle.hb_sqltoken.specs.Kinds.{is_digit, is_letter, in_name}
use Rattle.hb_sqltoken.specs.Tokens.{decimal, bounded, every_token, tokens_of}
use Rattle.hb_sqltoken.specs.Spellings.{Spells, IsWordLike}
use Rattle.hb_sqltoken.specs.Pieces.{MakeUp, nothing, blank, piece, IsSpelt}
use Rattle.hb_sqlparse.specs.Grammar.{IsLine, given, held, step, stop, arm_log, arm_area, start, sync, barrier}
use Rattle.hb_sqlparse.specs.PlainLines.{IsPlainItem}
use Rattle.hb_sqlparse.specs.Lines.{tokens_in}
use Rattle.hb_sqlparse.proofs.PlainTrees.{sane, Sane, both, parts}
use Rattle.hb_sqlparse.proofs.PlainWorks.{work_plain}
use Rattle.hb_sqlparse.proofs.Reaching.{token_of}

pub line_plain : (i : Item) (s : List Token) → IsLine i s → Sane s → length s ≤ 513 → IsPlainItem i
line_plain i s (given w e) h n = (h.0, work_plain w h.1.1 (omega (arith, n)))
line_plain i s (held w e) h n = (h.1.0, work_plain w h.1.1.1 (omega (arith, n)))
line_plain i s (step low high) h n = (h.1.0, (low, high))
line_plain i s stop h n = h.1.0
line_plain i s (arm_log low high) h n = (h.1.0, (low, high))
line_plain i s (arm_area low high) h n = (h.1.0, (low, high))
line_plain i s start h n = h.1.0
line_plain i s sync h n = h.1.0
line_plain i s barrier h n = tt

-- ---- spellings are sane

digit_low : (b : ℕ) → is_digit b ≡ true → b - 48 ≤ 9
unfolding is_digit
digit_low b h = let l = leb-true b 57 (parts (nat_le 48 b) (nat_le b 57) h).1 in omega (arith, l)

chain : (a b c d : ℕ) → a ≤ b → b ≤ c → c ≡ d → a ≤ d
chain a b c d x y z = omega arith

-- digits behind n spell less than the next number of as many digits
decimal_below : (n : ℕ) (s : List ℕ) → All (λ c. is_digit c ≡ true) s → decimal n s + 1 ≤ (n + 1) * 10 ^ length s
unfolding decimal
decimal_below n [] h = omega arith
decimal_below n (d ∷ s) h =
    let low = digit_low d (All-head (λ c. is_digit c ≡ true) d s h) in
    let rest = decimal_below (10 * n + (d - 48)) s (All-tail (λ c. is_digit c ≡ true) d s h) in
    let up : 10 * n + (d - 48) + 1 ≤ (n + 1) * 10 = omega (arith, low) in
    let e : (n + 1) * 10 * 10 ^ length s ≡ (n + 1) * 10 ^ suc (length s) = mul_assoc (n + 1) 10 (10 ^ length s) ∙ ap (λ (q : ℕ). (n + 1) * q) (sym (pow-succ' 10 (length s))) in
    chain _ _ _ _ rest (mul-le-mul_right (10 ^ length s) up) e

number_sane : (n : ℕ) (s : List ℕ) → Spells (token.Number n) s → is_short (pos n) ≡ true
number_sane n s h =
    let below : decimal 0 s + 1 ≤ 1 * 10 ^ length s = decimal_below 0 s h.0 in
    let most : 10 ^ length s ≤ 10 ^ 19 = pow-le-pow_right {n = 10} (omega arith) h.2 in
    le-leb (suc n) (10 ^ 19) (omega (arith, below, most, h.3))

or_right : (a b c : Bool) → (a || b || c) ≡ true → (a || (b || c)) ≡ true
or_right true b c h = refl
or_right false b c h = h

word_valid : (c : ℕ) → in_name c ≡ true → (valid.is_letter c || (valid.is_digit c || (c == 95))) ≡ true
unfolding in_name is_letter is_digit
word_valid c h = or_right (valid.is_letter c) (valid.is_digit c) (c == 95) h

name_by : (t s : List ℕ) → s ≡ t → IsWordLike s → length s ≤ 30 → is_name s ≡ true
unfolding is_letter
name_by t [] e w n = absurd w
name_by t (b ∷ s) e w n =
    both (valid.is_letter b) _ w.0
    (both (nat_le (length s) 29) _ (le-leb (length s) 29 (omega (arith, n)))
    (list_all-from_AllPass (λ c. valid.is_letter c || (valid.is_digit c || (c == 95))) s (λ k d lt. word_valid (slice_index_or s k d) (w.1 k d lt))))

name_sane : (t s : List ℕ) → Spells (token.Name t) s → is_name t ≡ true
name_sane t s h = subst (λ (l : List ℕ). is_name l ≡ true) h.0 (name_by t s h.0 h.1 h.2)

token_sane : (t : Token) (w rest : List ℕ) → IsSpelt t w rest → sane t ≡ true
token_sane (token.Number n) w rest (inl h) = number_sane n w h
token_sane (token.Name n) w rest (inl h) = name_sane n w h
token_sane (token.Number n) w rest (inr h) = absurd (cc)
token_sane (token.Name n) w rest (inr h) = absurd (cc)
token_sane _ w rest h = refl

made_sane : {ts : List Placed} {place : ℕ} {s : List ℕ} → MakeUp ts place s → Sane (map token_of ts)
made_sane nothing = tt
made_sane (blank b m) = made_sane m
made_sane (piece {t = t} {w = w} {rest = rest} i m) = (token_sane t w rest i.spelt, made_sane m)

bounded_sane : (n : ℕ) (ts : List Placed) → Sane (map token_of ts) → Sane (map token_of (bounded n ts))
unfolding bounded
bounded_sane n [] h = tt
bounded_sane zero (t ∷ ts) h = (refl, tt)
bounded_sane (suc n) (t ∷ ts) h = (h.0, bounded_sane n ts h.1)

pub line_sane : (line : List ℕ) → MakeUp (every_token line) 0 line → Sane (tokens_in line)
unfolding tokens_of
line_sane line m = bounded_sane 512 (every_token line) (made_sane m)

-- what a line of bytes says is plain
pub bytes_plain : (i : Item) (line : List ℕ) → IsLine i (tokens_in line) → MakeUp (every_token line) 0 line → length (tokens_of line) ≤ 513 → IsPlainItem i
bytes_plain i line h m n = line_plain i (tokens_in line) h (line_sane line m) (subst (λ (k : ℕ). k ≤ 513) (sym (length-map (tokens_of line) token_of)) n)
