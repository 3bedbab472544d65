-- Two items of a list that are alike: the first is like another one, or two of the others are.
use Rattle.std.proofs.Common.{◌≡◌, ℕ, ◌==◌, ◌≤◌, List, [], ◌∷◌, length, drop, get_or, refl, sym, ◌∙◌, ap, true, false, Bool, arith}
use Rattle.std.specs.Prelude.{◌||◌}
use Rattle.std.specs.List.{list_any}
use Rattle.hb_types.specs.Lists.{has_twins}

absorb : (b a y z : Bool) → ((b || a) || (y || z)) ≡ (b || ((a || z) || (y || z)))
absorb true a y z = refl
absorb false true y z = refl
absorb false false true true = refl
absorb false false true false = refl
absorb false false false true = refl
absorb false false false false = refl

step : (b a l y z : Bool) → (a || z) ≡ (l || z) → ((b || a) || (y || z)) ≡ ((b || l) || (y || z))
step b a l y z same = absorb b a y z ∙ ap (λ (x : Bool). b || (x || (y || z))) same ∙ sym (absorb b l y z)

-- two items are alike where the first is like another one, or two of the others are
pub twins_more : {A : Type 0} (alike : A → A → Bool) (x : A) (xs : List A) → has_twins alike (x ∷ xs) ≡ (list_any (alike x) xs || has_twins alike xs)
twins_more alike x [] = refl
twins_more alike x (y ∷ ys) = step (alike x y) _ (list_any (alike x) ys) _ (has_twins alike ys) (twins_more alike x ys)

split_first : {A : Type 0} (xs : List A) (x : A) → 1 ≤ length xs → x ≡ get_or xs 0 x → xs ≡ x ∷ drop 1 xs
split_first [] x some is = absurd (omega (arith, some))
split_first {A} (y ∷ ys) x some is = ap (λ (z : A). z ∷ ys) (sym is)

pub first_twin : {A : Type 0} (alike : A → A → Bool) (xs rest : List A) (x : A) (found : Bool) → 1 ≤ length xs → x ≡ get_or xs 0 x → rest ≡ drop 1 xs → found ≡ list_any (alike x) rest → found ≡ true → found ≡ has_twins alike xs
first_twin alike xs rest x found some is behind same yes_it =
    yes_it ∙ sym (ap (has_twins alike) (split_first xs x some is) ∙ twins_more alike x (drop 1 xs) ∙ ap (λ (b : Bool). b || has_twins alike (drop 1 xs)) (sym (sym yes_it ∙ same ∙ ap (list_any (alike x)) behind)))

pub later_twin : {A : Type 0} (alike : A → A → Bool) (xs rest : List A) (x : A) (found later : Bool) → 1 ≤ length xs → x ≡ get_or xs 0 x → rest ≡ drop 1 xs → found ≡ list_any (alike x) rest → found ≡ false → later ≡ has_twins alike rest → later ≡ has_twins alike xs
later_twin alike xs rest x found later some is behind same not_it there =
    there ∙ ap (has_twins alike) behind
    ∙ sym (ap (has_twins alike) (split_first xs x some is) ∙ twins_more alike x (drop 1 xs) ∙ ap (λ (b : Bool). b || has_twins alike (drop 1 xs)) (sym (sym not_it ∙ same ∙ ap (list_any (alike x)) behind)))

-- ---- of numbers

same_first : (xs : List ℕ) (d : ℕ) → 1 ≤ length xs → get_or xs 0 d ≡ get_or xs 0 (get_or xs 0 d)
same_first [] d some = refl
same_first (x ∷ xs) d some = refl

pub first_number_twin : (xs rest : List ℕ) (d : ℕ) (found : Bool) → 1 ≤ length xs → rest ≡ drop 1 xs → found ≡ list_any (λ (m : ℕ). get_or xs 0 d == m) rest → found ≡ true
    → found ≡ has_twins (λ (a b : ℕ). a == b) xs
first_number_twin xs rest d found some behind same yes_it = first_twin (λ (a b : ℕ). a == b) xs rest (get_or xs 0 d) found some (same_first xs d some) behind same yes_it

pub later_number_twin : (xs rest : List ℕ) (d : ℕ) (found later : Bool) → 1 ≤ length xs → rest ≡ drop 1 xs → found ≡ list_any (λ (m : ℕ). get_or xs 0 d == m) rest → found ≡ false
    → later ≡ has_twins (λ (a b : ℕ). a == b) rest → later ≡ has_twins (λ (a b : ℕ). a == b) xs
later_number_twin xs rest d found later some behind same not_it there = later_twin (λ (a b : ℕ). a == b) xs rest (get_or xs 0 d) found later some (same_first xs d some) behind same not_it there
