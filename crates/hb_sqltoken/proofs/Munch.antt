-- Each token is as long as it can be.
use Rattle.std.proofs.Common.{◌≡◌, ℕ, suc, ◌+◌, ◌≤◌, Bool, true, false, List, [], ◌∷◌, ◌++◌, length, refl, arith, subst, Option, Some, None, length-append}
use Rattle.std.specs.List.{All}
use Rattle.std.proofs.lemmas.List.Elements.{All-head, All-tail, All-weaker}
use Rattle.std.proofs.lemmas.Bool.{and_parts, leb-true, lt-leb}
use Rattle.std.specs.Prelude.{nat_le}
use Rattle.hb_model.specs.declared.condition.Op.{Op}
use Rattle.hb_model.specs.declared.condition.Op.TheVariants as op
use Rattle.hb_sqltoken.specs.declared.token.Token.{Token}
use Rattle.hb_sqltoken.specs.declared.token.Token.TheVariants as token
use Rattle.hb_sqltoken.specs.Kinds.{is_digit, is_letter, is_quote, in_name, run_of, begins_with}
use Rattle.hb_sqltoken.specs.Tokens.{with_front, quoted, text_token, text_token_as, symbol_token, first_token}
use Rattle.hb_sqltoken.specs.Spellings.{doubled, op_text, Spells}
use Rattle.hb_sqltoken.proofs.Runs.{by_test}
use Rattle.hb_sqltoken.proofs.WordLemmas.{word_letters, letter_in_name}
use Rattle.hb_sqltoken.proofs.Firsts.{first_name, first_number}

pub letter_above : (b : ℕ) → is_digit b ≡ true → is_letter b ≡ false
unfolding is_digit is_letter
letter_above b t =
    let p = and_parts (nat_le 48 b) (nat_le b 57) t in
    let h : b ≤ 57 = leb-true b 57 p.1 in
    rw (lt-leb 65 b (omega arith), lt-leb 97 b (omega arith)) refl

-- ---- a longer spelling

run_longest : (q : ℕ → Bool) (f r : List ℕ) → All (λ c. q c ≡ true) f → length f ≤ run_of q (f ++ r)
unfolding run_of
run_longest q [] r all = omega arith
run_longest q (b ∷ f) r all =
    let t = All-head (λ c. q c ≡ true) b f all in
    let h = run_longest q f r (All-tail (λ c. q c ≡ true) b f all) in
    rw t (omega arith)

abbrev AtLeast : ℕ → Option (List ℕ × ℕ) → Type 0
AtLeast n None = Unit {0}
AtLeast n (Some x) = n ≤ x.1

least_more : (front : List ℕ) (k n : ℕ) (o : Option (List ℕ × ℕ)) → AtLeast n o → AtLeast (k + n) (with_front front k o)
least_more front k n None h = tt
least_more front k n (Some x) h = omega arith

least_one : (c : ℕ) (s : List ℕ) → AtLeast 1 (quoted (39 ∷ c ∷ s))
unfolding quoted
least_one c s = by_test (is_quote c) (λ t. rw t (more (quoted s))) (λ f. rw f (omega arith))
  where
    more : (o : Option (List ℕ × ℕ)) → AtLeast 1 (with_front (39 ∷ []) 2 o)
    more None = tt
    more (Some x) = omega arith

pub quoted_byte : (b : ℕ) (s : List ℕ) → is_quote b ≡ false → quoted (b ∷ s) ≡ with_front (b ∷ []) 1 (quoted s)
unfolding quoted
quoted_byte b [] f = rw f refl
quoted_byte b (c ∷ s) f = rw f refl

quoted_least : (t r : List ℕ) → AtLeast (length (doubled t ++ 39 ∷ [])) (quoted ((doubled t ++ 39 ∷ []) ++ r))
unfolding quoted
quoted_least [] [] = omega arith
quoted_least [] (c ∷ r) = least_one c r
quoted_least (b ∷ t) r =
    by_test (is_quote b)
    (λ q. rw (q, q) (subst (λ n. AtLeast n (with_front (b ∷ []) 2 (quoted ((doubled t ++ 39 ∷ []) ++ r)))) (two (length (doubled t ++ 39 ∷ []))) (least_more (b ∷ []) 2 _ (quoted ((doubled t ++ 39 ∷ []) ++ r)) (quoted_least t r))))
    (λ f. rw f (rw (quoted_byte b ((doubled t ++ 39 ∷ []) ++ r) f) (subst (λ n. AtLeast n (with_front (b ∷ []) 1 (quoted ((doubled t ++ 39 ∷ []) ++ r)))) (one (length (doubled t ++ 39 ∷ []))) (least_more (b ∷ []) 1 _ (quoted ((doubled t ++ 39 ∷ []) ++ r)) (quoted_least t r)))))
  where
    two : (n : ℕ) → 2 + n ≡ suc (suc n)
    two n = omega arith

    one : (n : ℕ) → 1 + n ≡ suc n
    one n = omega arith

text_least : (s : List ℕ) (n : ℕ) (o : Option (List ℕ × ℕ)) → n ≤ length s → AtLeast n o → n ≤ (text_token_as s o).1
unfolding text_token_as
text_least s n None h k = h
text_least s n (Some x) h k = k

text_longest : (c : ℕ) (f r t : List ℕ) → c ∷ f ≡ 39 ∷ (doubled t ++ 39 ∷ []) → length f ≤ (first_token c (f ++ r)).1
unfolding first_token text_token is_letter is_digit
text_longest c f r t e =
    let h : c ≡ 39 = cc in
    let g : f ≡ doubled t ++ 39 ∷ [] = cc in
    rw (h, g) (text_least ((doubled t ++ 39 ∷ []) ++ r) (length (doubled t ++ 39 ∷ [])) (quoted ((doubled t ++ 39 ∷ []) ++ r)) (omega (arith, length-append (doubled t ++ 39 ∷ []) r)) (quoted_least t r))

single : (c k n : ℕ) (f : List ℕ) → c ∷ f ≡ k ∷ [] → length f ≤ n
single c k n f e = let g : f ≡ [] = cc in rw g (omega arith)

op_longest : (o : Op) (c : ℕ) (f r : List ℕ) → c ∷ f ≡ op_text o → length f ≤ (first_token c (f ++ r)).1
unfolding first_token symbol_token begins_with is_letter is_digit
op_longest op.Eq c f r e = single c 61 _ f e
op_longest op.Lt c f r e = single c 60 _ f e
op_longest op.Gt c f r e = single c 62 _ f e
op_longest op.Ne c f r e = let h : c ≡ 60 = cc in let g : f ≡ 62 ∷ [] = cc in rw (h, g) (omega arith)
op_longest op.Le c f r e = let h : c ≡ 60 = cc in let g : f ≡ 61 ∷ [] = cc in rw (h, g) (omega arith)
op_longest op.Ge c f r e = let h : c ≡ 62 = cc in let g : f ≡ 61 ∷ [] = cc in rw (h, g) (omega arith)

spelt_longest : (t : Token) (c : ℕ) (f r : List ℕ) → Spells t (c ∷ f) → length f ≤ (first_token c (f ++ r)).1
spelt_longest (token.Number n) c f r h =
    let d = All-head (λ x. is_digit x ≡ true) c f h.0 in
    rw (first_number c (f ++ r) (letter_above c d) d) (run_longest is_digit f r (All-tail (λ x. is_digit x ≡ true) c f h.0))
spelt_longest (token.Text t) c f r h = text_longest c f r t h
spelt_longest (token.Name t) c f r h = rw (first_name c (f ++ r) h.1.0) (run_longest in_name f r h.1.1)
spelt_longest (token.Word w) c f r h =
    let all = word_letters (c ∷ f) w h in
    rw (first_name c (f ++ r) (All-head (λ x. is_letter x ≡ true) c f all))
    (run_longest in_name f r (All-weaker (λ x. is_letter x ≡ true) (λ x. in_name x ≡ true) letter_in_name f (All-tail (λ x. is_letter x ≡ true) c f all)))
spelt_longest token.Open c f r h = single c 40 _ f h
spelt_longest token.Close c f r h = single c 41 _ f h
spelt_longest token.Comma c f r h = single c 44 _ f h
spelt_longest token.Colon c f r h = single c 58 _ f h
spelt_longest token.Semicolon c f r h = single c 59 _ f h
spelt_longest token.Star c f r h = single c 42 _ f h
spelt_longest token.Plus c f r h = single c 43 _ f h
spelt_longest token.Minus c f r h = single c 45 _ f h
spelt_longest (token.Compare o) c f r h = op_longest o c f r h
spelt_longest token.Bad c f r h = absurd h

pub longest : (b : ℕ) (s : List ℕ) (t : Token) (front back : List ℕ) → Spells t front → front ++ back ≡ b ∷ s → length front ≤ suc (first_token b s).1
longest b s t [] back h e = omega arith
longest b s t (c ∷ f) back h e =
    let g : c ≡ b = cc in
    let k : f ++ back ≡ s = cc in
    let m = spelt_longest t c f back h in
    let n : length f ≤ (first_token b s).1 = subst (λ (x : ℕ × List ℕ). length f ≤ (first_token x.0 x.1).1) (λ i. (g i, k i)) m in
    omega arith
