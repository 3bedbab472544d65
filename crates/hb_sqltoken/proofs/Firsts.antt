-- The tokens of a line, token by token.
use Rattle.std.proofs.Common.{◌≡◌, ℕ, zero, suc, ◌+◌, ◌-◌, ◌<◌, ◌≤◌, Bool, true, false, List, [], ◌∷◌, ◌++◌, length, take, drop, get_or, refl, sym, ap, ◌∙◌, arith, append_assoc, append-nil, length-drop, length-append}
use Rattle.std.specs.Prelude.{◌==◌}
use Rattle.hb_sqltoken.specs.declared.token.Token.{Token}
use Rattle.hb_sqltoken.specs.declared.token.Placed.{Placed}
use Rattle.hb_sqltoken.specs.Kinds.{is_digit, is_letter, is_blank, is_quote, in_name, run_of, begins_with}
use Rattle.hb_sqltoken.specs.Tokens.{text_token, symbol_token, name_token, number_token, first_token, placed, tokens_from, bounded, tokens_of, every_token}
use Rattle.std.specs.List.{All}
use Rattle.std.proofs.lemmas.List.{drop_more, drop_all, drop-drop, get_or-drop}
use Rattle.std.proofs.lemmas.List.Elements.{All-cons, All-same}
use Rattle.hb_sqltoken.specs.declared.token.Token.TheVariants as token
use Rattle.hb_sqltoken.proofs.Runs.{by_test, run_within, run_all, front_cons}
use Rattle.hb_sqltoken.proofs.Numbers.{digit_ranges}
use Rattle.hb_sqltoken.proofs.Texts.{text_within}

-- ---- which token is the first

pub first_name : (b : ℕ) (s : List ℕ) → is_letter b ≡ true → first_token b s ≡ (name_token (b ∷ take (run_of in_name s) s), run_of in_name s)
unfolding first_token
first_name b s t = rw t refl

pub first_number : (b : ℕ) (s : List ℕ) → is_letter b ≡ false → is_digit b ≡ true → first_token b s ≡ (number_token (b ∷ take (run_of is_digit s) s) (drop (run_of is_digit s) s), run_of is_digit s)
unfolding first_token
first_number b s f t = rw (f, t) refl

pub first_text : (b : ℕ) (s : List ℕ) → is_letter b ≡ false → is_digit b ≡ false → is_quote b ≡ true → first_token b s ≡ text_token s
unfolding first_token
first_text b s f g t = rw (f, g, t) refl

pub first_symbol : (b : ℕ) (s : List ℕ) → is_letter b ≡ false → is_digit b ≡ false → is_quote b ≡ false → first_token b s ≡ symbol_token b s
unfolding first_token
first_symbol b s f g h = rw (f, g, h) refl

pub name_front : (line behind : List ℕ) (more : ℕ) (t : Token) → behind ≡ drop 1 line → 0 < length line → is_letter (get_or line 0 0) ≡ true → more ≡ run_of in_name behind → t ≡ name_token (take (1 + more) line)
    → (t, more) ≡ first_token (get_or line 0 0) (drop 1 line)
name_front line behind more t d h l n e =
    let m : more ≡ run_of in_name (drop 1 line) = n ∙ ap (run_of in_name) d in
    let f : t ≡ name_token (get_or line 0 0 ∷ take (run_of in_name (drop 1 line)) (drop 1 line)) = e ∙ ap name_token (front_cons line more h ∙ ap (λ k. get_or line 0 0 ∷ take k (drop 1 line)) m) in
    (λ i. (f i, m i)) ∙ sym (first_name (get_or line 0 0) (drop 1 line) l)

pub number_front : (line behind rest : List ℕ) (more : ℕ) (t : Token) → behind ≡ drop 1 line → rest ≡ drop more behind → 0 < length line → is_letter (get_or line 0 0) ≡ false → is_digit (get_or line 0 0) ≡ true → more ≡ run_of is_digit behind → t ≡ number_token (take (1 + more) line) rest
    → (t, more) ≡ first_token (get_or line 0 0) (drop 1 line)
number_front line behind rest more t d r h l g n e =
    let m : more ≡ run_of is_digit (drop 1 line) = n ∙ ap (run_of is_digit) d in
    let q : rest ≡ drop (run_of is_digit (drop 1 line)) (drop 1 line) = r ∙ (λ i. drop (m i) (d i)) in
    let p : take (1 + more) line ≡ get_or line 0 0 ∷ take (run_of is_digit (drop 1 line)) (drop 1 line) = front_cons line more h ∙ ap (λ k. get_or line 0 0 ∷ take k (drop 1 line)) m in
    let f : t ≡ number_token (get_or line 0 0 ∷ take (run_of is_digit (drop 1 line)) (drop 1 line)) (drop (run_of is_digit (drop 1 line)) (drop 1 line)) = e ∙ (λ i. number_token (p i) (q i)) in
    (λ i. (f i, m i)) ∙ sym (first_number (get_or line 0 0) (drop 1 line) l g)

pub number_digits : (line behind : List ℕ) (more : ℕ) → behind ≡ drop 1 line → 0 < length line → is_digit (get_or line 0 0) ≡ true → more ≡ run_of is_digit behind → All (λ d. (48 ≤ d) × (d ≤ 57)) (take (1 + more) line)
number_digits line behind more d h g n =
    let m : more ≡ run_of is_digit (drop 1 line) = n ∙ ap (run_of is_digit) d in
    digit_ranges (take (1 + more) line)
    (All-same (λ b. is_digit b ≡ true) (take (1 + more) line) (get_or line 0 0 ∷ take (run_of is_digit (drop 1 line)) (drop 1 line))
    (front_cons line more h ∙ ap (λ k. get_or line 0 0 ∷ take k (drop 1 line)) m)
    (All-cons (λ b. is_digit b ≡ true) (get_or line 0 0) (take (run_of is_digit (drop 1 line)) (drop 1 line)) g (run_all is_digit (drop 1 line))))

-- ---- a token stands within the bytes

one : (q : ℕ → Bool) (s : List ℕ) → begins_with q s ≡ true → 1 ≤ length s
unfolding begins_with
one q [] e = absurd (cc)
one q (c ∷ s) e = omega arith

symbol_within : (b : ℕ) (s : List ℕ) → (symbol_token b s).1 ≤ length s
unfolding symbol_token
symbol_within b s =
    let z : 0 ≤ length s = omega arith in
    by_test (b == 40) (λ t. rw t z) (λ f40. rw f40 (
    by_test (b == 41) (λ t. rw t z) (λ f41. rw f41 (
    by_test (b == 42) (λ t. rw t z) (λ f42. rw f42 (
    by_test (b == 43) (λ t. rw t z) (λ f43. rw f43 (
    by_test (b == 44) (λ t. rw t z) (λ f44. rw f44 (
    by_test (b == 45) (λ t. rw t z) (λ f45. rw f45 (
    by_test (b == 58) (λ t. rw t z) (λ f58. rw f58 (
    by_test (b == 59) (λ t. rw t z) (λ f59. rw f59 (
    by_test (b == 61) (λ t. rw t z) (λ f61. rw f61 (
    by_test (b == 60) (λ t. rw t (by_test (begins_with (λ c. c == 61) s) (λ v. rw v (one (λ c. c == 61) s v)) (λ g. rw g (by_test (begins_with (λ c. c == 62) s) (λ v. rw v (one (λ c. c == 62) s v)) (λ h. rw h z))))) (λ f60. rw f60 (
    by_test (b == 62) (λ t. rw t (by_test (begins_with (λ c. c == 61) s) (λ v. rw v (one (λ c. c == 61) s v)) (λ g. rw g z))) (λ f62. rw f62 z)))))))))))))))))))))

pub first_within : (b : ℕ) (s : List ℕ) → (first_token b s).1 ≤ length s
first_within b s =
    by_test (is_letter b)
    (λ t. rw (first_name b s t) (run_within in_name s))
    (λ f. by_test (is_digit b)
    (λ t. rw (first_number b s f t) (run_within is_digit s))
    (λ g. by_test (is_quote b)
    (λ t. rw (first_text b s f g t) (text_within s))
    (λ h. rw (first_symbol b s f g h) (symbol_within b s))))

-- ---- one token after another

pub tokens_skip : (k place : ℕ) (s : List ℕ) → tokens_from k place s ≡ tokens_from 0 (place + k) (drop k s)
unfolding tokens_from
tokens_skip zero place [] = refl
tokens_skip (suc k) place [] = refl
tokens_skip zero place (b ∷ s) = let e : place ≡ place + 0 = omega arith in ap (λ p. tokens_from 0 p (b ∷ s)) e
tokens_skip (suc k) place (b ∷ s) = let e : suc place + k ≡ place + suc k = omega arith in tokens_skip k (suc place) s ∙ ap (λ p. tokens_from 0 p (drop k s)) e

pub blank_goes : (line : List ℕ) (at : ℕ) → at < length line → is_blank (get_or line at 0) ≡ true → tokens_from 0 (at + 1) (drop (at + 1) line) ≡ tokens_from 0 at (drop at line)
unfolding tokens_from
blank_goes line at h t = rw (drop_more line at 0 h) (rw t (let e : at + 1 ≡ suc at = omega arith in ap (λ p. tokens_from 0 p (drop (at + 1) line)) e))

-- the token at a place, and how many of the bytes behind its first belong to it
pub token_at : List ℕ → ℕ → Token × ℕ
token_at line at = first_token (get_or line at 0) (drop (at + 1) line)

pub token_goes : (line : List ℕ) (at : ℕ) → at < length line → is_blank (get_or line at 0) ≡ false
    → tokens_from 0 at (drop at line) ≡ placed at (token_at line at).0 ∷ tokens_from 0 (at + 1 + (token_at line at).1) (drop (at + 1 + (token_at line at).1) line)
unfolding token_at tokens_from
token_goes line at h f =
    let m = (first_token (get_or line at 0) (drop (at + 1) line)).1 in
    let p : suc at + m ≡ at + 1 + m = omega arith in
    let d : drop m (drop (at + 1) line) ≡ drop (at + 1 + m) line = drop-drop m (at + 1) line in
    rw (drop_more line at 0 h) (rw f (ap (λ r. placed at (first_token (get_or line at 0) (drop (at + 1) line)).0 ∷ r) (tokens_skip m (suc at) (drop (at + 1) line) ∙ (λ i. tokens_from 0 (p i) (d i)))))

pub token_within : (line : List ℕ) (at : ℕ) → at < length line → at + 1 + (token_at line at).1 ≤ length line
unfolding token_at
token_within line at h = let w = first_within (get_or line at 0) (drop (at + 1) line) in omega (arith, w, length-drop (at + 1) line)

-- what the program calls is the token at the place
pub token_is : (line : List ℕ) (at more : ℕ) (t : Token) → (t, more) ≡ first_token (get_or (drop at line) 0 0) (drop 1 (drop at line)) → (t, more) ≡ token_at line at
unfolding token_at
token_is line at more t e =
    let z : at + 0 ≡ at = omega arith in
    let g : get_or (drop at line) 0 0 ≡ get_or line at 0 = get_or-drop at line 0 0 ∙ ap (λ n. get_or line n 0) z in
    let d : drop 1 (drop at line) ≡ drop (at + 1) line = drop-drop 1 at line in
    e ∙ (λ i. first_token (g i) (d i))

pub tokens_end : (line : List ℕ) (at : ℕ) → length line ≤ at → tokens_from 0 at (drop at line) ≡ []
unfolding tokens_from
tokens_end line at h = ap (λ r. tokens_from 0 at r) (drop_all at line h)

bounded_push : (found ts : List Placed) (t : Placed) (n : ℕ) → (found ++ t ∷ []) ++ bounded n ts ≡ found ++ bounded (suc n) (t ∷ ts)
unfolding bounded
bounded_push found ts t n = append_assoc found (t ∷ []) (bounded n ts)

-- one token more is found
pub found_goes : (found more all : List Placed) (t : Placed) (ts : List Placed) → length found < 512 → more ≡ t ∷ ts → found ++ bounded (512 - length found) more ≡ all
    → (found ++ t ∷ []) ++ bounded (512 - length (found ++ t ∷ [])) ts ≡ all
found_goes found more all t ts h m e =
    let n : 512 - length found ≡ suc (512 - length (found ++ t ∷ [])) = omega (arith, length-append found (t ∷ [])) in
    bounded_push found ts t (512 - length (found ++ t ∷ [])) ∙ (λ i. found ++ bounded (sym n i) (sym m i)) ∙ e

-- behind 512 tokens
pub found_full : (found more all : List Placed) (t : Placed) (ts : List Placed) → length found ≡ 512 → more ≡ t ∷ ts → found ++ bounded (512 - length found) more ≡ all
    → found ++ placed t.place token.Bad ∷ [] ≡ all
unfolding bounded
found_full found more all t ts h m e =
    let n : 0 ≡ 512 - length found = omega arith in
    (λ i. found ++ bounded (n i) (sym m i)) ∙ e

pub found_all : (found more all : List Placed) → more ≡ [] → found ++ bounded (512 - length found) more ≡ all → found ≡ all
unfolding bounded
found_all found more all m e = sym (append-nil found) ∙ ((λ i. found ++ bounded (512 - length found) (sym m i)) ∙ e)

pub found_none : (found : List Placed) (line : List ℕ) → found ≡ [] → found ++ bounded (512 - length found) (tokens_from 0 0 line) ≡ tokens_of line
unfolding tokens_of every_token
found_none found line e = ap (λ f. f ++ bounded (512 - length f) (tokens_from 0 0 line)) e

-- what one round of the program finds
pub next_found : (line rest : List ℕ) (at more : ℕ) (t : Token) → rest ≡ drop at line → at < length line → is_blank (get_or line at 0) ≡ false → (t, more) ≡ first_token (get_or rest 0 0) (drop 1 rest)
    → (at + (1 + more) ≤ length line) × (tokens_from 0 at (drop at line) ≡ placed at t ∷ tokens_from 0 (at + (1 + more)) (drop (at + (1 + more)) line))
next_found line rest at more t r h b e =
    let k : (t, more) ≡ token_at line at = token_is line at more t (e ∙ (λ i. first_token (get_or (r i) 0 0) (drop 1 (r i)))) in
    let m : (token_at line at).1 ≡ more = ap (λ (x : Token × ℕ). x.1) (sym k) in
    let n : at + 1 + (token_at line at).1 ≡ at + (1 + more) = omega (arith, m) in
    (omega (arith, n, token_within line at h), token_goes line at h b ∙ (λ i. placed at (sym k i).0 ∷ tokens_from 0 (n i) (drop (n i) line)))
