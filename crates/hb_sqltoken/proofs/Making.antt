-- Tokens and blanks make up a line; their places ascend.
use Rattle.std.proofs.Common.{◌≡◌, ℕ, zero, suc, ◌+◌, ◌<◌, ◌≤◌, false, List, [], ◌∷◌, length, take, drop, ap, ◌∙◌, arith, subst, length-take-le, take-append-drop}
use Rattle.std.specs.List.{All}
use Rattle.std.proofs.lemmas.List.Elements.{All-nil, All-cons}
use Rattle.hb_sqltoken.specs.declared.token.Placed.{Placed}
use Rattle.hb_sqltoken.specs.Kinds.{is_blank}
use Rattle.hb_sqltoken.specs.Tokens.{first_token, placed, tokens_from, every_token, bounded, tokens_of}
use Rattle.hb_sqltoken.specs.Pieces.{IsToken, MakeUp, nothing, blank, piece, Ascend}
use Rattle.hb_sqltoken.proofs.Runs.{by_test}
use Rattle.hb_sqltoken.proofs.Firsts.{first_within}
use Rattle.hb_sqltoken.proofs.Munch.{longest}
use Rattle.hb_sqltoken.proofs.Spelt.{first_spelt}

is_token : (b : ℕ) (s : List ℕ) → is_blank b ≡ false → IsToken (first_token b s).0 (b ∷ take (first_token b s).1 s) (drop (first_token b s).1 s)
is_token b s f =
    let n = (first_token b s).1 in
    let w : length (take n s) ≡ n = length-take-le n s (first_within b s) in
    record {
      some = omega arith;
      spelt = first_spelt b s f;
      longest = λ t front back h e. (let m = longest b s t front back h (e ∙ ap (λ r. b ∷ r) (take-append-drop n s)) in omega (arith, w, m));
    }

made : (skip place : ℕ) (s : List ℕ) → MakeUp (tokens_from skip place s) (place + skip) (drop skip s)
unfolding tokens_from
made zero place [] = nothing
made (suc skip) place [] = nothing
made (suc skip) place (b ∷ s) =
    let e : suc place + skip ≡ place + suc skip = omega arith in
    subst (λ p. MakeUp (tokens_from skip (suc place) s) p (drop skip s)) e (made skip (suc place) s)
made zero place (b ∷ s) =
    let z : place ≡ place + 0 = omega arith in
    subst (λ p. MakeUp (tokens_from zero place (b ∷ s)) p (b ∷ s)) z
    (by_test (is_blank b)
    (λ t. rw t (let e : suc place + 0 ≡ suc place = omega arith in blank t (subst (λ p. MakeUp (tokens_from 0 (suc place) s) p s) e (made zero (suc place) s))))
    (λ f. rw f
    (let n = (first_token b s).1 in
    let w : length (take n s) ≡ n = length-take-le n s (first_within b s) in
    let e : suc place + n ≡ place + length (b ∷ take n s) = omega (arith, w) in
    subst (λ r. MakeUp (placed place (first_token b s).0 ∷ tokens_from n (suc place) s) place r) (ap (λ r. b ∷ r) (take-append-drop n s))
    (piece (is_token b s f) (subst (λ p. MakeUp (tokens_from n (suc place) s) p (drop n s)) e (made n (suc place) s))))))

pub line_made : (line : List ℕ) → MakeUp (every_token line) 0 line
unfolding every_token
line_made line = made 0 0 line

-- ---- places

lower : (a b end : ℕ) (ts : List Placed) → a ≤ b → Ascend b end ts → Ascend a end ts
lower a b end [] h k = tt
lower a b end (t ∷ ts) h k = (omega (arith, k.0), k.1, k.2)

ascends : (skip place : ℕ) (s : List ℕ) → Ascend place (place + length s) (tokens_from skip place s)
unfolding tokens_from
ascends zero place [] = tt
ascends (suc skip) place [] = tt
ascends (suc skip) place (b ∷ s) =
    let e : suc place + length s ≡ place + suc (length s) = omega arith in
    subst (λ n. Ascend place n (tokens_from skip (suc place) s)) e (lower place (suc place) (suc place + length s) (tokens_from skip (suc place) s) (omega arith) (ascends skip (suc place) s))
ascends zero place (b ∷ s) =
    let e : suc place + length s ≡ place + suc (length s) = omega arith in
    by_test (is_blank b)
    (λ t. rw t (subst (λ n. Ascend place n (tokens_from 0 (suc place) s)) e (lower place (suc place) (suc place + length s) (tokens_from 0 (suc place) s) (omega arith) (ascends 0 (suc place) s))))
    (λ f. rw f (omega arith, omega arith, subst (λ n. Ascend (suc place) n (tokens_from (first_token b s).1 (suc place) s)) e (ascends (first_token b s).1 (suc place) s)))

bounded_ascends : (n from end : ℕ) (ts : List Placed) → Ascend from end ts → Ascend from end (bounded n ts)
unfolding bounded
bounded_ascends n from end [] h = tt
bounded_ascends zero from end (t ∷ ts) h = (h.0, h.1, tt)
bounded_ascends (suc n) from end (t ∷ ts) h = (h.0, h.1, bounded_ascends n (suc t.place) end ts h.2)

pub line_ascends : (line : List ℕ) → Ascend 0 (length line) (tokens_of line)
unfolding tokens_of every_token
line_ascends line =
    let e : 0 + length line ≡ length line = omega arith in
    bounded_ascends 512 0 (length line) (tokens_from 0 0 line) (subst (λ n. Ascend 0 n (tokens_from 0 0 line)) e (ascends 0 0 line))

all_within : (from end : ℕ) (ts : List Placed) → Ascend from end ts → All (λ t. t.place < end) ts
all_within from end [] h = All-nil (λ t. t.place < end)
all_within from end (t ∷ ts) h = All-cons (λ t. t.place < end) t ts h.1 (all_within (suc t.place) end ts h.2)

pub line_within : (line : List ℕ) → All (λ t. t.place < length line) (tokens_of line)
line_within line = all_within 0 (length line) (tokens_of line) (line_ascends line)

bounded_few : (n : ℕ) (ts : List Placed) → length (bounded n ts) ≤ n + 1
unfolding bounded
bounded_few n [] = omega arith
bounded_few zero (t ∷ ts) = omega arith
bounded_few (suc n) (t ∷ ts) = let h = bounded_few n ts in omega arith

pub line_few : (line : List ℕ) → length (tokens_of line) ≤ 513
unfolding tokens_of
line_few line = bounded_few 512 (every_token line)
