-- The first token is spelt by its bytes, or bad.
use Rattle.std.proofs.Common.{◌≡◌, inl, inr, ℕ, suc, ◌+◌, ◌≤◌, true, false, List, [], ◌∷◌, ◌++◌, length, take, drop, refl, sym, ap, ◌∙◌, arith, subst, Option, Some, None, ◌==◌}
use Rattle.std.specs.Prelude.{nat_lt, nat_le}
use Rattle.std.specs.List.{All}
use Rattle.std.proofs.lemmas.List.{take_all, drop_all}
use Rattle.std.proofs.lemmas.List.Elements.{All-head, All-cons}
use Rattle.std.proofs.lemmas.Bool.{eqb-true, eqb-false, both_ways, ltb-true, ltb-false, leb-true, leb-false}
use Rattle.hb_model.specs.declared.condition.Op.{Op}
use Rattle.hb_model.specs.declared.condition.Op.TheVariants as op
use Rattle.hb_sqltoken.specs.declared.token.Word.{Word}
use Rattle.hb_sqltoken.specs.declared.token.Token.{Token}
use Rattle.hb_sqltoken.specs.declared.token.Token.TheVariants as token
use Rattle.hb_sqltoken.specs.Kinds.{is_digit, is_letter, is_blank, is_quote, in_name, run_of, begins_with}
use Rattle.hb_sqltoken.specs.Words.{word_of}
use Rattle.hb_sqltoken.specs.Tokens.{with_front, quoted, text_token, text_token_as, symbol_token, name_token, name_token_as, number_token, first_token}
use Rattle.hb_sqltoken.specs.Spellings.{doubled, IsWordLike, op_text, Spells}
use Rattle.hb_sqltoken.specs.Pieces.{IsBad, long_number, joined, long_name, open_text, stray, IsSpelt}
use Rattle.hb_sqltoken.proofs.Runs.{by_test, run_all}
use Rattle.hb_sqltoken.proofs.Firsts.{first_name, first_number, first_text, first_symbol}
use Rattle.hb_sqltoken.proofs.WordLemmas.{word_letters}

-- ---- names

name_spelt : (w rest : List ℕ) (o : Option Word) → IsWordLike w → word_of w ≡ o → IsSpelt (name_token_as w o) w rest
unfolding name_token_as
name_spelt w rest (Some v) like e = inl e
name_spelt w rest None like e =
    by_test (nat_le (length w) 30)
    (λ t. rw t (inl (refl, like, leb-true (length w) 30 t, e)))
    (λ f. rw f (inr (refl, long_name like (leb-false (length w) 30 f))))

-- ---- numbers

number_spelt : (w rest : List ℕ) → All (λ c. is_digit c ≡ true) w → 1 ≤ length w → IsSpelt (number_token w rest) w rest
unfolding number_token
number_spelt w rest all some =
    by_test (nat_lt 19 (length w))
    (λ t. rw t (inr (refl, long_number all (ltb-true 19 (length w) t))))
    (λ f. by_test (begins_with is_letter rest)
    (λ t. rw (f, t) (inr (refl, joined all t)))
    (λ g. rw (f, g) (inl (all, some, ltb-false 19 (length w) f, refl))))

-- ---- texts

abbrev IsQuotedAs : List ℕ → Option (List ℕ × ℕ) → Type 0
IsQuotedAs s None = Unit {0}
IsQuotedAs s (Some x) = take x.1 s ≡ doubled x.0 ++ 39 ∷ []

quoted_more : (b : ℕ) (s : List ℕ) (o : Option (List ℕ × ℕ)) → is_quote b ≡ false → IsQuotedAs s o → IsQuotedAs (b ∷ s) (with_front (b ∷ []) 1 o)
quoted_more b s None f h = tt
quoted_more b s (Some x) f h = let e : 1 + x.1 ≡ suc x.1 = omega arith in rw (e, f) (ap (λ r. b ∷ r) h)

quoted_pair : (b c : ℕ) (s : List ℕ) (o : Option (List ℕ × ℕ)) → is_quote b ≡ true → is_quote c ≡ true → IsQuotedAs s o → IsQuotedAs (b ∷ c ∷ s) (with_front (b ∷ []) 2 o)
quoted_pair b c s None t u h = tt
quoted_pair b c s (Some x) t u h =
    let e : 2 + x.1 ≡ suc (suc x.1) = omega arith in
    let k : c ≡ b = eqb-true c 39 u ∙ sym (eqb-true b 39 t) in
    rw (e, t) (λ i. b ∷ k i ∷ h i)

quoted_as : (s : List ℕ) → IsQuotedAs s (quoted s)
unfolding quoted
quoted_as [] = tt
quoted_as (b ∷ []) = by_test (is_quote b) (λ t. rw t (let e : b ≡ 39 = eqb-true b 39 t in ap (λ c. c ∷ []) e)) (λ f. rw f tt)
quoted_as (b ∷ c ∷ s) =
    by_test (is_quote b)
    (λ t. by_test (is_quote c)
    (λ u. rw (t, u) (quoted_pair b c s (quoted s) t u (quoted_as s)))
    (λ f. rw (t, f) (let e : b ≡ 39 = eqb-true b 39 t in ap (λ d. d ∷ []) e)))
    (λ f. rw f (quoted_more b (c ∷ s) (quoted (c ∷ s)) f (quoted_as (c ∷ s))))

text_spelt : (b : ℕ) (s : List ℕ) (o : Option (List ℕ × ℕ)) → is_quote b ≡ true → quoted s ≡ o → IsQuotedAs s o → IsSpelt (text_token_as s o).0 (b ∷ take (text_token_as s o).1 s) (drop (text_token_as s o).1 s)
unfolding text_token_as
text_spelt b s (Some x) t e h = inl (let k : b ≡ 39 = eqb-true b 39 t in λ i. k i ∷ h i)
text_spelt b s None t e h =
    let k : 39 ≡ b = sym (eqb-true b 39 t) in
    let f : s ≡ take (length s) s = sym (take_all (length s) s (omega arith)) in
    let g : [] ≡ drop (length s) s = sym (drop_all (length s) s (omega arith)) in
    inr (refl, subst (λ (x : List ℕ × List ℕ). IsBad x.0 x.1) (λ i. (k i ∷ f i, g i)) (open_text e))

-- ---- symbols

-- the byte begins no token
record IsStray (b : ℕ) : Type 0 where
  letter : is_letter b ≡ false
  digit : is_digit b ≡ false
  quote : is_quote b ≡ false
  b40 : (b == 40) ≡ false
  b41 : (b == 41) ≡ false
  b42 : (b == 42) ≡ false
  b43 : (b == 43) ≡ false
  b44 : (b == 44) ≡ false
  b45 : (b == 45) ≡ false
  b58 : (b == 58) ≡ false
  b59 : (b == 59) ≡ false
  b61 : (b == 61) ≡ false
  b60 : (b == 60) ≡ false
  b62 : (b == 62) ≡ false

no_op : (b : ℕ) → IsStray b → (o : Op) (s : List ℕ) → b ∷ s ≡ op_text o → ⊥
no_op b is op.Eq s h = let e : b ≡ 61 = cc in eqb-false b 61 is.b61 e
no_op b is op.Ne s h = let e : b ≡ 60 = cc in eqb-false b 60 is.b60 e
no_op b is op.Lt s h = let e : b ≡ 60 = cc in eqb-false b 60 is.b60 e
no_op b is op.Le s h = let e : b ≡ 60 = cc in eqb-false b 60 is.b60 e
no_op b is op.Gt s h = let e : b ≡ 62 = cc in eqb-false b 62 is.b62 e
no_op b is op.Ge s h = let e : b ≡ 62 = cc in eqb-false b 62 is.b62 e

no_token : (b : ℕ) → IsStray b → (t : Token) (s : List ℕ) → Spells t (b ∷ s) → ⊥
no_token b is (token.Number n) s h = both_ways (is_digit b) is.digit (All-head (λ c. is_digit c ≡ true) b s h.0)
no_token b is (token.Text t) s h = let e : b ≡ 39 = cc in eqb-false b 39 is.quote e
no_token b is (token.Name t) s h = both_ways (is_letter b) is.letter h.1.0
no_token b is (token.Word w) s h = both_ways (is_letter b) is.letter (All-head (λ c. is_letter c ≡ true) b s (word_letters (b ∷ s) w h))
no_token b is token.Open s h = let e : b ≡ 40 = cc in eqb-false b 40 is.b40 e
no_token b is token.Close s h = let e : b ≡ 41 = cc in eqb-false b 41 is.b41 e
no_token b is token.Star s h = let e : b ≡ 42 = cc in eqb-false b 42 is.b42 e
no_token b is token.Plus s h = let e : b ≡ 43 = cc in eqb-false b 43 is.b43 e
no_token b is token.Comma s h = let e : b ≡ 44 = cc in eqb-false b 44 is.b44 e
no_token b is token.Minus s h = let e : b ≡ 45 = cc in eqb-false b 45 is.b45 e
no_token b is token.Colon s h = let e : b ≡ 58 = cc in eqb-false b 58 is.b58 e
no_token b is token.Semicolon s h = let e : b ≡ 59 = cc in eqb-false b 59 is.b59 e
no_token b is (token.Compare o) s h = no_op b is o s h
no_token b is token.Bad s h = h

next_byte : (k : ℕ) (s : List ℕ) → begins_with (λ c. c == k) s ≡ true → take 1 s ≡ k ∷ []
unfolding begins_with
next_byte k [] e = absurd (cc)
next_byte k (c ∷ s) e = ap (λ b. b ∷ []) (eqb-true c k e)

abbrev IsFirst : ℕ → List ℕ → Token × ℕ → Type 0
IsFirst b s x = IsSpelt x.0 (b ∷ take x.1 s) (drop x.1 s)

single : (b k : ℕ) → (b == k) ≡ true → b ∷ [] ≡ k ∷ []
single b k t = ap (λ c. c ∷ []) (eqb-true b k t)

double : (b k j : ℕ) (s : List ℕ) → (b == k) ≡ true → begins_with (λ c. c == j) s ≡ true → b ∷ take 1 s ≡ k ∷ j ∷ []
double b k j s t u = let e = eqb-true b k t in let r = next_byte j s u in (λ i. e i ∷ r i)

symbol_spelt : (b : ℕ) (s : List ℕ) → is_letter b ≡ false → is_digit b ≡ false → is_quote b ≡ false → IsFirst b s (symbol_token b s)
unfolding symbol_token
symbol_spelt b s f g h =
    by_test (b == 40) (λ t. rw t (inl (single b 40 t))) (λ f40. rw f40 (
    by_test (b == 41) (λ t. rw t (inl (single b 41 t))) (λ f41. rw f41 (
    by_test (b == 42) (λ t. rw t (inl (single b 42 t))) (λ f42. rw f42 (
    by_test (b == 43) (λ t. rw t (inl (single b 43 t))) (λ f43. rw f43 (
    by_test (b == 44) (λ t. rw t (inl (single b 44 t))) (λ f44. rw f44 (
    by_test (b == 45) (λ t. rw t (inl (single b 45 t))) (λ f45. rw f45 (
    by_test (b == 58) (λ t. rw t (inl (single b 58 t))) (λ f58. rw f58 (
    by_test (b == 59) (λ t. rw t (inl (single b 59 t))) (λ f59. rw f59 (
    by_test (b == 61) (λ t. rw t (inl (single b 61 t))) (λ f61. rw f61 (
    by_test (b == 60) (λ t. rw t (by_test (begins_with (λ c. c == 61) s) (λ u. rw u (inl (double b 60 61 s t u))) (λ v. rw v (by_test (begins_with (λ c. c == 62) s) (λ u. rw u (inl (double b 60 62 s t u))) (λ w. rw w (inl (single b 60 t))))))) (λ f60. rw f60 (
    by_test (b == 62) (λ t. rw t (by_test (begins_with (λ c. c == 61) s) (λ u. rw u (inl (double b 62 61 s t u))) (λ v. rw v (inl (single b 62 t))))) (λ f62. rw f62 (
    inr (refl, stray (no_token b (record { letter = f; digit = g; quote = h; b40 = f40; b41 = f41; b42 = f42; b43 = f43; b44 = f44; b45 = f45; b58 = f58; b59 = f59; b61 = f61; b60 = f60; b62 = f62 })))))))))))))))))))))))))

-- ---- the first token

pub first_spelt : (b : ℕ) (s : List ℕ) → is_blank b ≡ false → IsSpelt (first_token b s).0 (b ∷ take (first_token b s).1 s) (drop (first_token b s).1 s)
unfolding name_token text_token
first_spelt b s blank =
    by_test (is_letter b)
    (λ t. rw (first_name b s t) (let w = b ∷ take (run_of in_name s) s in name_spelt w (drop (run_of in_name s) s) (word_of w) (t, run_all in_name s) refl))
    (λ f. by_test (is_digit b)
    (λ t. rw (first_number b s f t) (number_spelt (b ∷ take (run_of is_digit s) s) (drop (run_of is_digit s) s) (All-cons (λ c. is_digit c ≡ true) b (take (run_of is_digit s) s) t (run_all is_digit s)) (omega arith)))
    (λ g. by_test (is_quote b)
    (λ t. rw (first_text b s f g t) (text_spelt b s (quoted s) t refl (quoted_as s)))
    (λ h. rw (first_symbol b s f g h) (symbol_spelt b s f g h))))
