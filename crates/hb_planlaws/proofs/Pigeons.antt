-- As many names, each of which is one of the others: each of the others is one of them.
use Rattle.std.proofs.Common.{◌≡◌, ◌⊎◌, inl, inr, ◌≤◌, List, [], ◌∷◌, ◌++◌, length, subst, ap, arith, length-append}
use Rattle.hb_types.specs.Lists.{Each, IsIn}
use Rattle.hb_types.proofs.Ascending.{Each-in, in_Each}

abbrev pub Apart : {A : Type 0} → List A → Type 0
Apart [] = Unit {0}
Apart (a ∷ ns) = Each (λ b. a ≡ b → ⊥) ns × Apart ns

-- a list cut at one of its items
record Cut {A : Type 0} (x : A) (xs : List A) : Type 0 where
  front : List A
  back : List A
  is : xs ≡ front ++ x ∷ back

cut : {A : Type 0} (x : A) (xs : List A) → IsIn x xs → Cut x xs
cut x [] h = absurd h
cut x (y ∷ ys) (inl e) = record { front = []; back = ys; is = ap (λ z. z ∷ ys) e }
cut x (y ∷ ys) (inr h) = let c = cut x ys h in record { front = y ∷ c.front; back = c.back; is = ap (λ zs. y ∷ zs) c.is }

without : {A : Type 0} (x a : A) (front back : List A) → IsIn x (front ++ a ∷ back) → (a ≡ x) ⊎ IsIn x (front ++ back)
without x a [] back (inl e) = inl e
without x a [] back (inr h) = inr h
without x a (y ∷ front) back (inl e) = inr (inl e)
without x a (y ∷ front) back (inr h) = elim (without x a front back h) [ inl e ↦ inl e | inr k ↦ inr (inr k) ]

pub all_met : {A : Type 0} (ns bs : List A) → Apart ns → Each (λ a. IsIn a bs) ns → length bs ≤ length ns → (b : A) → IsIn b bs → IsIn b ns
all_met [] [] apart each few b h = h
all_met [] (c ∷ bs) apart each few b h = absurd (omega arith)
all_met {A} (a ∷ ns) bs apart each few b h =
    let c : Cut a bs = cut a bs each.0 in
    let size : length bs ≡ length (c.front ++ a ∷ c.back) = ap length c.is in
    let left : length (c.front ++ c.back) ≤ length ns = omega (arith, size, length-append c.front (a ∷ c.back), length-append c.front c.back) in
    let others : Each (λ x. IsIn x (c.front ++ c.back)) ns = Each-in (λ x. IsIn x (c.front ++ c.back)) ns (λ x i. other c.front c.back x (in_Each (λ y. a ≡ y → ⊥) x ns i apart.0) (without x a c.front c.back (subst (λ zs. IsIn x zs) c.is (in_Each (λ y. IsIn y bs) x ns i each.1)))) in
    elim (without b a c.front c.back (subst (λ zs. IsIn b zs) c.is h)) [
      | inl e ↦ inl e
      | inr k ↦ inr (all_met ns (c.front ++ c.back) apart.1 others left b k)
    ]
  where
    other : (front back : List A) (x : A) → (a ≡ x → ⊥) → (a ≡ x) ⊎ IsIn x (front ++ back) → IsIn x (front ++ back)
    other front back x n (inl e) = absurd (n e)
    other front back x n (inr k) = k
