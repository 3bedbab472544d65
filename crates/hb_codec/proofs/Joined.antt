-- Texts of items, one after another, as a loop writes them.
use Rattle.std.proofs.Common.{◌≡◌, ℕ, zero, suc, ◌+◌, ◌≤◌, ◌<◌, List, [], ◌∷◌, ◌++◌, length, map, take, get_or, refl, sym, ◌∙◌, ap, arith, append_assoc, length-append}
use Rattle.std.proofs.lemmas.List.{append-nil, take_all}
use Rattle.hb_types.specs.Lists.{joined}

module _ {X : Type 0} (text : X → List ℕ) where
  pub joined_more : (xs : List X) (i : ℕ) (d : X) → i < length xs → joined (map text (take (i + 1) xs)) ≡ joined (map text (take i xs)) ++ text (get_or xs i d)
  joined_more xs i d lt = let e : i + 1 ≡ suc i = omega arith in ap (λ (k : ℕ). joined (map text (take k xs))) e ∙ go xs i lt
    where
      go : (xs : List X) (i : ℕ) → i < length xs → joined (map text (take (suc i) xs)) ≡ joined (map text (take i xs)) ++ text (get_or xs i d)
      go [] i lt = absurd (omega (arith, lt))
      go (x ∷ xs) zero lt = append-nil (text x)
      go (x ∷ xs) (suc i) lt = ap (λ (l : List ℕ). text x ++ l) (go xs i (omega (arith, lt))) ∙ sym (append_assoc (text x) (joined (map text (take i xs))) (text (get_or xs i d)))

  -- one step of a loop that writes
  pub writes_more : (xs : List X) (i : ℕ) (x : X) (old before after : List ℕ) → i < length xs → x ≡ get_or xs i x → after ≡ before ++ text x → before ≡ old ++ joined (map text (take i xs)) → after ≡ old ++ joined (map text (take (i + 1) xs))
  writes_more xs i x old before after lt is e f =
      e ∙ ap (λ (l : List ℕ). l ++ text x) f ∙ append_assoc old (joined (map text (take i xs))) (text x)
      ∙ ap (λ (l : List ℕ). old ++ l) (ap (λ (y : X). joined (map text (take i xs)) ++ text y) is ∙ sym (joined_more xs i x lt))

  pub writes_all : (xs : List X) (i : ℕ) → length xs ≤ i → joined (map text (take i xs)) ≡ joined (map text xs)
  writes_all xs i le = ap (λ (l : List X). joined (map text l)) (take_all i xs le)

  pub front_short : (xs : List X) (i : ℕ) → length (joined (map text (take i xs))) ≤ length (joined (map text xs))
  front_short [] zero = omega arith
  front_short [] (suc i) = omega arith
  front_short (x ∷ xs) zero = omega arith
  front_short (x ∷ xs) (suc i) = let more = front_short xs i in omega (arith, more, length-append (text x) (joined (map text (take i xs))), length-append (text x) (joined (map text xs)))

-- several pieces, one behind another
pub two_pieces : (o a b x y : List ℕ) → x ≡ o ++ a → y ≡ x ++ b → y ≡ o ++ (a ++ b)
two_pieces o a b x y e f = f ∙ ap (λ (l : List ℕ). l ++ b) e ∙ append_assoc o a b

pub three_pieces : (o a b c x y z : List ℕ) → x ≡ o ++ a → y ≡ x ++ b → z ≡ y ++ c → z ≡ o ++ ((a ++ b) ++ c)
three_pieces o a b c x y z e f g = two_pieces o (a ++ b) c y z (two_pieces o a b x y e f) g

pub get_or_any : {X : Type 0} (xs : List X) (i : ℕ) (d e : X) → i < length xs → get_or xs i d ≡ get_or xs i e
get_or_any [] i d e lt = absurd (omega (arith, lt))
get_or_any (x ∷ xs) zero d e lt = refl
get_or_any (x ∷ xs) (suc i) d e lt = get_or_any xs i d e (omega (arith, lt))

-- the pieces of a Prepare
pub six_pieces : (o a b c d e f p q r s t u : List ℕ) → p ≡ o ++ a → q ≡ p ++ b → r ≡ q ++ c → s ≡ r ++ d → t ≡ s ++ e → u ≡ t ++ f → u ≡ o ++ (((((a ++ b) ++ c) ++ d) ++ e) ++ f)
six_pieces o a b c d e f p q r s t u ea eb ec ed ee ef =
    two_pieces o ((((a ++ b) ++ c) ++ d) ++ e) f t u (two_pieces o (((a ++ b) ++ c) ++ d) e s t (two_pieces o ((a ++ b) ++ c) d r s (three_pieces o a b c p q r ea eb ec) ed) ee) ef
