-- Members of lists: of a list with one more, of a filtered list, of a range.
use Rattle.std.proofs.Common.{◌≡◌, inl, inr, ◌⊎◌, ℕ, zero, suc, ◌+◌, ◌≤◌, ◌<◌, Bool, true, false, cond, List, [], ◌∷◌, ◌++◌, filter, sym, refl, subst, ◌∙◌, arith}
use Rattle.std.proofs.lemmas.Bool.{false≢true}
use Rattle.std.specs.List.{range_with_len}
use Rattle.hb_types.specs.Lists.{Has, IsIn}

pub Has-split : {A : Type 0} (P : A → Type 0) (xs ys : List A) → Has P (xs ++ ys) → Has P xs ⊎ Has P ys
Has-split P [] ys h = inr h
Has-split P (x ∷ xs) ys (inl p) = inl (inl p)
Has-split P (x ∷ xs) ys (inr h) = elim (Has-split P xs ys h) [ inl i ↦ inl (inr i) | inr j ↦ inr j ]

pub Has-last : {A : Type 0} (P : A → Type 0) (xs : List A) (x : A) → Has P (xs ++ x ∷ []) → Has P xs ⊎ P x
Has-last P xs x h = elim (Has-split P xs (x ∷ []) h) [ inl i ↦ inl i | inr j ↦ elim j [ inl p ↦ inr p | inr z ↦ absurd z ] ]

pub Has-in : {A : Type 0} (P : A → Type 0) (x : A) (xs : List A) → IsIn x xs → P x → Has P xs
Has-in P x [] h p = absurd h
Has-in P x (y ∷ ys) (inl e) p = inl (subst P (sym e) p)
Has-in P x (y ∷ ys) (inr h) p = inr (Has-in P x ys h p)

-- no item stands twice
abbrev pub AreDistinct : {A : Type 0} → List A → Type 0
AreDistinct [] = Unit {0}
AreDistinct (x ∷ xs) = (IsIn x xs → ⊥) × AreDistinct xs

-- ---- a filtered list

module _ {A : Type 0} (p : A → Bool) where
  from_by : (x y : A) (ys : List A) → (IsIn x (filter p ys) → IsIn x ys × (p x ≡ true)) → (b : Bool) → p y ≡ b
      → IsIn x (cond b (y ∷ filter p ys) (filter p ys)) → IsIn x (y ∷ ys) × (p x ≡ true)
  from_by x y ys rest true e (inl i) = (inl i, subst (λ z. p z ≡ true) i e)
  from_by x y ys rest true e (inr i) = let r = rest i in (inr r.0, r.1)
  from_by x y ys rest false e i = let r = rest i in (inr r.0, r.1)

  pub filter-from : (x : A) (xs : List A) → IsIn x (filter p xs) → IsIn x xs × (p x ≡ true)
  filter-from x [] h = absurd h
  filter-from x (y ∷ ys) h = from_by x y ys (filter-from x ys) (p y) refl h

  to_by : (x y : A) (ys : List A) → (IsIn x ys → IsIn x (filter p ys)) → p x ≡ true → (b : Bool) → p y ≡ b → IsIn x (y ∷ ys)
      → IsIn x (cond b (y ∷ filter p ys) (filter p ys))
  to_by x y ys rest is true e (inl i) = inl i
  to_by x y ys rest is true e (inr i) = inr (rest i)
  to_by x y ys rest is false e (inl i) = absurd (false≢true (sym e ∙ subst (λ z. p z ≡ true) (sym i) is))
  to_by x y ys rest is false e (inr i) = rest i

  pub filter-to : (x : A) (xs : List A) → IsIn x xs → p x ≡ true → IsIn x (filter p xs)
  filter-to x [] h is = absurd h
  filter-to x (y ∷ ys) h is = to_by x y ys (λ i. filter-to x ys i is) is (p y) refl h

  distinct_by : (x : A) (xs : List A) → (IsIn x xs → ⊥) → AreDistinct (filter p xs) → (b : Bool) → AreDistinct (cond b (x ∷ filter p xs) (filter p xs))
  distinct_by x xs fresh rest true = (λ h. fresh (filter-from x xs h).0, rest)
  distinct_by x xs fresh rest false = rest

  pub filter-distinct : (xs : List A) → AreDistinct xs → AreDistinct (filter p xs)
  filter-distinct [] d = tt
  filter-distinct (x ∷ xs) d = distinct_by x xs d.0 (filter-distinct xs d.1) (p x)

-- ---- a range

range-from : (a n m : ℕ) → IsIn m (range_with_len a n) → a ≤ m
range-from a zero m h = absurd h
range-from a (suc n) m (inl e) = omega (arith, e)
range-from a (suc n) m (inr h) = let l = range-from (a + 1) n m h in omega (arith, l)

pub range-distinct : (a n : ℕ) → AreDistinct (range_with_len a n)
range-distinct a zero = tt
range-distinct a (suc n) = (λ h. let l = range-from (a + 1) n a h in omega (arith, l), range-distinct (a + 1) n)

same_or_above : (a m : ℕ) → a ≤ m → (a ≡ m) ⊎ (a + 1 ≤ m)
same_or_above a m l = grind arith

pub range-has : (a n m : ℕ) → a ≤ m → m < a + n → IsIn m (range_with_len a n)
range-has a zero m low high = absurd (omega (arith, low, high))
range-has a (suc n) m low high =
    elim (same_or_above a m low) [ inl e ↦ inl e | inr l ↦ inr (range-has (a + 1) n m l (omega (arith, high))) ]
