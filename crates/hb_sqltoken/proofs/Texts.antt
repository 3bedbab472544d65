-- Texts, byte by byte.
use Rattle.std.proofs.Common.{◌≡◌, ℕ, zero, suc, ◌+◌, ◌<◌, ◌≤◌, true, false, List, [], ◌∷◌, ◌++◌, length, drop, get_or, refl, sym, ap, ◌∙◌, arith, append_assoc, append-nil, Option, Some, None, nat_eq, subst}
use Rattle.hb_sqltoken.specs.declared.token.Token.TheVariants as token
use Rattle.std.proofs.lemmas.List.{drop_more, drop_all}
use Rattle.hb_sqltoken.specs.Kinds.{is_quote, begins_with}
use Rattle.hb_sqltoken.specs.Tokens.{with_front, quoted, text_token, text_token_as}
use Rattle.hb_sqltoken.proofs.Runs.{by_test}

with_twice : (t u : List ℕ) (m n : ℕ) (o : Option (List ℕ × ℕ)) → with_front (t ++ u) (m + n) o ≡ with_front t m (with_front u n o)
with_twice t u m n None = refl
with_twice t u m n (Some x) =
    let a : (t ++ u) ++ x.0 ≡ t ++ (u ++ x.0) = append_assoc t u x.0 in
    let b : m + n + x.1 ≡ m + (n + x.1) = omega arith in
    λ i. Some (a i, b i)

text_byte : (text r : List ℕ) (b n : ℕ) → is_quote b ≡ false → with_front (text ++ b ∷ []) (n + 1) (quoted r) ≡ with_front text n (quoted (b ∷ r))
unfolding quoted
text_byte text [] b n f = rw f refl
text_byte text (c ∷ s) b n f = rw f (with_twice text (b ∷ []) n 1 (quoted (c ∷ s)))

text_pair : (text r : List ℕ) (b c n : ℕ) → is_quote b ≡ true → is_quote c ≡ true → with_front (text ++ b ∷ []) (n + 2) (quoted r) ≡ with_front text n (quoted (b ∷ c ∷ r))
unfolding quoted
text_pair text r b c n t u = rw (t, u) (with_twice text (b ∷ []) n 2 (quoted r))

text_closes : (text r : List ℕ) (b n : ℕ) → is_quote b ≡ true → begins_with (λ c. nat_eq c 39) r ≡ false → with_front text n (quoted (b ∷ r)) ≡ Some (text, n + 1)
unfolding quoted begins_with
text_closes text [] b n t f = rw t (ap (λ x. Some (x, n + 1)) (append-nil text))
text_closes text (c ∷ s) b n t f = rw (t, f) (ap (λ x. Some (x, n + 1)) (append-nil text))

-- one byte more of a text
pub byte_goes : (text s : List ℕ) (i : ℕ) → i < length s → is_quote (get_or s i 0) ≡ false → with_front (text ++ get_or s i 0 ∷ []) (i + 1) (quoted (drop (i + 1) s)) ≡ with_front text i (quoted (drop i s))
byte_goes text s i h f = text_byte text (drop (i + 1) s) (get_or s i 0) i f ∙ ap (λ r. with_front text i (quoted r)) (sym (drop_more s i 0 h))

-- a quote is behind a byte
pub quote_behind : (s : List ℕ) (i : ℕ) → begins_with (λ c. nat_eq c 39) (drop i s) ≡ true → (i < length s) × (is_quote (get_or s i 0) ≡ true)
unfolding begins_with
quote_behind [] zero t = absurd (cc)
quote_behind [] (suc i) t = absurd (cc)
quote_behind (b ∷ s) zero t = (omega arith, t)
quote_behind (b ∷ s) (suc i) t = let h = quote_behind s i t in (omega arith, h.1)

-- a doubled quote more of a text
pub pair_goes : (text s : List ℕ) (i : ℕ) → i < length s → is_quote (get_or s i 0) ≡ true → begins_with (λ c. nat_eq c 39) (drop (i + 1) s) ≡ true → with_front (text ++ get_or s i 0 ∷ []) (i + 2) (quoted (drop (i + 2) s)) ≡ with_front text i (quoted (drop i s))
pair_goes text s i h t u =
    let q = quote_behind s (i + 1) u in
    let l : i + 1 < length s = q.0 in
    let e : drop i s ≡ get_or s i 0 ∷ get_or s (i + 1) 0 ∷ drop (i + 2) s = drop_more s i 0 h ∙ ap (λ r. get_or s i 0 ∷ r) (drop_more s (i + 1) 0 l ∙ (let n : i + 1 + 1 ≡ i + 2 = omega arith in ap (λ k. get_or s (i + 1) 0 ∷ drop k s) n)) in
    text_pair text (drop (i + 2) s) (get_or s i 0) (get_or s (i + 1) 0) i t q.1 ∙ ap (λ r. with_front text i (quoted r)) (sym e)

pub closes_goes : (text s : List ℕ) (i : ℕ) → i < length s → is_quote (get_or s i 0) ≡ true → begins_with (λ c. nat_eq c 39) (drop (i + 1) s) ≡ false → with_front text i (quoted (drop i s)) ≡ Some (text, i + 1)
closes_goes text s i h t f = ap (λ r. with_front text i (quoted r)) (drop_more s i 0 h) ∙ text_closes text (drop (i + 1) s) (get_or s i 0) i t f

pub open_goes : (text s : List ℕ) (i : ℕ) → length s ≤ i → with_front text i (quoted (drop i s)) ≡ None
unfolding quoted
open_goes text s i h = ap (λ r. with_front text i (quoted r)) (drop_all i s h)

-- a text's last quote lies within the bytes behind its first
pub CountsWithin : ℕ → Option (List ℕ × ℕ) → Type 0
CountsWithin n None = Unit {0}
CountsWithin n (Some x) = x.1 ≤ n

counts_more : (front : List ℕ) (k n : ℕ) (o : Option (List ℕ × ℕ)) → CountsWithin n o → CountsWithin (k + n) (with_front front k o)
unfolding CountsWithin
counts_more front k n None h = tt
counts_more front k n (Some x) h = omega arith

quoted_counts : (s : List ℕ) → CountsWithin (length s) (quoted s)
unfolding quoted CountsWithin
quoted_counts [] = tt
quoted_counts (b ∷ []) = by_test (is_quote b) (λ t. rw t (omega arith)) (λ f. rw f tt)
quoted_counts (b ∷ c ∷ s) =
    by_test (is_quote b)
    (λ t. by_test (is_quote c)
    (λ u. rw (t, u) (subst (λ n. CountsWithin n (with_front (b ∷ []) 2 (quoted s))) (two (length s)) (counts_more (b ∷ []) 2 (length s) (quoted s) (quoted_counts s))))
    (λ f. rw (t, f) (omega arith)))
    (λ f. rw f (subst (λ n. CountsWithin n (with_front (b ∷ []) 1 (quoted (c ∷ s)))) (one (length (c ∷ s))) (counts_more (b ∷ []) 1 (length (c ∷ s)) (quoted (c ∷ s)) (quoted_counts (c ∷ s)))))
  where
    two : (n : ℕ) → 2 + n ≡ suc (suc n)
    two n = omega arith

    one : (n : ℕ) → 1 + n ≡ suc n
    one n = omega arith

token_within : (s : List ℕ) (o : Option (List ℕ × ℕ)) → CountsWithin (length s) o → (text_token_as s o).1 ≤ length s
unfolding text_token_as CountsWithin
token_within s None h = omega arith
token_within s (Some x) h = h

pub text_within : (s : List ℕ) → (text_token s).1 ≤ length s
unfolding text_token
text_within s = token_within s (quoted s) (quoted_counts s)

pub text_found : (s text : List ℕ) (n : ℕ) → quoted s ≡ Some (text, n) → text_token s ≡ (token.Text text, n)
unfolding text_token text_token_as
text_found s text n e = rw e refl

pub text_open : (s : List ℕ) → quoted s ≡ None → text_token s ≡ (token.Bad, length s)
unfolding text_token text_token_as
text_open s e = rw e refl
