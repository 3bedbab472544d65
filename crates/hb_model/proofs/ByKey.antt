-- Lists that ascend by key, with the same item at each key, are equal.
use Rattle.std.proofs.Common.{◌≡◌, ℤ, List, [], ◌∷◌, Option, Some, None, Bool, true, false, cond, refl, subst, sym, ap, ◌∙◌}
use Rattle.std.specs.List.{find}
use Rattle.std.specs.Ordering.{int_eq, int_cmp, is_eq, ordering_reverse}
use Rattle.std.specs.declared.cmp.Ordering.{Ordering}
use Rattle.std.specs.declared.cmp.Ordering.TheVariants.{Less, Equal, Greater}
use Rattle.std.proofs.lemmas.Bool.Decides.{Decides-int_eq}
use Rattle.std.proofs.lemmas.Cmp.{int_cmp_total}
use Rattle.hb_types.specs.Lists.{Ascends}

by_test : (P : Bool → Type 0) (b : Bool) → (b ≡ true → P true) → (b ≡ false → P false) → P b
by_test P true t f = t refl
by_test P false t f = f refl

not_below_itself : (k : ℤ) → int_cmp k k ≡ Less → ⊥
not_below_itself k h =
    let e : is_eq (int_cmp k k) ≡ true = (Decides-int_eq k k).1 refl in
    let f : is_eq Less ≡ true = subst (λ o. is_eq o ≡ true) h e in cc

below_apart : (j k : ℤ) → int_cmp j k ≡ Less → int_eq k j ≡ false
below_apart j k h =
    by_test (λ v. int_eq k j ≡ v → int_eq k j ≡ false) (int_eq k j)
    (λ y. λ _. let same : k ≡ j = (Decides-int_eq k j).0 y in absurd (not_below_itself j (subst (λ x. int_cmp j x ≡ Less) same h)))
    (λ n. λ _. n) refl

module _ {A : Type 0} (key : A → ℤ) where
  abbrev Ascending : List A → Type 0
  Ascending = Ascends (λ a b. int_cmp (key a) (key b))

  abbrev at_key : ℤ → List A → Option A
  at_key k xs = find (λ x. int_eq (key x) k) xs

  tail_ascends : (x : A) (xs : List A) → Ascending (x ∷ xs) → Ascending xs
  tail_ascends x [] a = tt
  tail_ascends x (y ∷ ys) a = a.1

  -- nothing has a key below the first one's
  none_below : (k : ℤ) (x : A) (xs : List A) → Ascending (x ∷ xs) → int_cmp k (key x) ≡ Less → at_key k (x ∷ xs) ≡ None
  none_below k x [] a h = rw (below_apart k (key x) h) refl
  none_below k x (y ∷ ys) a h = rw (below_apart k (key x) h) (none_below k y ys a.1 (int_cmp_total.trans k (key x) (key y) h a.0))

  -- nothing behind the first one has its key
  none_behind : (x : A) (xs : List A) → Ascending (x ∷ xs) → at_key (key x) xs ≡ None
  none_behind x [] a = refl
  none_behind x (y ∷ ys) a = none_below (key x) y ys a.1 a.0

  at_first : (x : A) (xs : List A) → at_key (key x) (x ∷ xs) ≡ Some x
  at_first x xs = rw ((Decides-int_eq (key x) (key x)).1 refl) refl

  tails_same : (x : A) (xs ys : List A) → Ascending (x ∷ xs) → Ascending (x ∷ ys) → ((k : ℤ) → at_key k (x ∷ xs) ≡ at_key k (x ∷ ys))
      → (k : ℤ) → at_key k xs ≡ at_key k ys
  tails_same x xs ys a b same k =
      by_test (λ v. int_eq (key x) k ≡ v → cond v (Some x) (at_key k xs) ≡ cond v (Some x) (at_key k ys) → at_key k xs ≡ at_key k ys) (int_eq (key x) k)
      (λ y. λ _. λ _. subst (λ j. at_key j xs ≡ at_key j ys) ((Decides-int_eq (key x) k).0 y) (none_behind x xs a ∙ sym (none_behind x ys b)))
      (λ n. λ _. λ h. h) refl (same k)

  same_first : (o : Ordering) (x y : A) (xs ys : List A) → int_cmp (key x) (key y) ≡ o → Ascending (x ∷ xs) → Ascending (y ∷ ys)
      → ((k : ℤ) → at_key k (x ∷ xs) ≡ at_key k (y ∷ ys)) → x ≡ y
  same_first Less x y xs ys h a b same =
      let e : at_key (key x) (x ∷ xs) ≡ None = same (key x) ∙ none_below (key x) y ys b h in
      let f : Some x ≡ None = sym (at_first x xs) ∙ e in cc
  same_first Equal x y xs ys h a b same =
      let is : key x ≡ key y = (Decides-int_eq (key x) (key y)).0 (ap is_eq h) in
      let there : at_key (key x) (y ∷ ys) ≡ Some y = subst (λ k. at_key k (y ∷ ys) ≡ Some y) (sym is) (at_first y ys) in
      let f : Some x ≡ Some y = sym (at_first x xs) ∙ (same (key x) ∙ there) in cc
  same_first Greater x y xs ys h a b same =
      let back : int_cmp (key y) (key x) ≡ Less = int_cmp_total.antisymm (key y) (key x) ∙ ap ordering_reverse h in
      let e : at_key (key y) (y ∷ ys) ≡ None = sym (same (key y)) ∙ none_below (key y) x xs a back in
      let f : Some y ≡ None = sym (at_first y ys) ∙ e in cc

  pub same_by_key : (xs ys : List A) → Ascending xs → Ascending ys → ((k : ℤ) → at_key k xs ≡ at_key k ys) → xs ≡ ys
  same_by_key [] [] a b same = refl
  same_by_key [] (y ∷ ys) a b same = let f : None ≡ Some y = same (key y) ∙ at_first y ys in cc
  same_by_key (x ∷ xs) [] a b same = let f : None ≡ Some x = sym (same (key x)) ∙ at_first x xs in cc
  same_by_key (x ∷ xs) (y ∷ ys) a b same =
      let e : x ≡ y = same_first (int_cmp (key x) (key y)) x y xs ys refl a b same in
      let b2 : Ascending (x ∷ ys) = subst (λ z. Ascending (z ∷ ys)) (sym e) b in
      let same2 : (k : ℤ) → at_key k (x ∷ xs) ≡ at_key k (x ∷ ys) = subst (λ z. (k : ℤ) → at_key k (x ∷ xs) ≡ at_key k (z ∷ ys)) (sym e) same in
      ap (λ zs. x ∷ zs) (same_by_key xs ys (tail_ascends x xs a) (tail_ascends x ys b2) (tails_same x xs ys a b2 same2)) ∙ ap (λ z. z ∷ ys) e
