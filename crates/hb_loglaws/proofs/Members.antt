-- Members of lists that are mapped and filtered.
use Rattle.std.proofs.Common.{◌≡◌, Bool, true, List, [], ◌∷◌, refl, sym, ap, subst, inl, inr, map, ◌⊎◌, ◌++◌}
use Rattle.std.specs.Prelude.{filter}
use Rattle.std.specs.Cmp.{IsTotalOrder}
use Rattle.std.specs.declared.cmp.Ordering.{Ordering}
use Rattle.std.specs.declared.cmp.Ordering.TheVariants.{Less}
use Rattle.hb_types.specs.Lists.{Ascends, Each, Has, IsIn}
use Rattle.hb_types.proofs.Ascending.{Ascends-first, Ascends-tail}
use Rattle.hb_types.proofs.PutLaws.{by_test}

pub Has-in : {A : Type 0} (P : A → Type 0) (x : A) (xs : List A) → IsIn x xs → P x → Has P xs
Has-in P x [] h p = absurd h
Has-in P x (y ∷ ys) (inl e) p = inl (subst P (sym e) p)
Has-in P x (y ∷ ys) (inr h) p = inr (Has-in P x ys h p)

later_in : {A : Type 0} (x y : A) (xs ys : List A) → IsIn x xs ⊎ IsIn x ys → IsIn x (y ∷ xs) ⊎ IsIn x ys
later_in x y xs ys (inl h) = inl (inr h)
later_in x y xs ys (inr h) = inr h

pub in_append : {A : Type 0} (x : A) (xs ys : List A) → IsIn x (xs ++ ys) → IsIn x xs ⊎ IsIn x ys
in_append x [] ys h = inr h
in_append x (y ∷ xs) ys (inl e) = inl (inl e)
in_append x (y ∷ xs) ys (inr h) = later_in x y xs ys (in_append x xs ys h)

-- an item of which something holds
pub found : {A : Type 0} (P : A → Type 0) (xs : List A) → Has P xs → (x : A) × IsIn x xs × P x
found P [] h = absurd h
found P (x ∷ xs) (inl p) = (x, inl refl, p)
found P (x ∷ xs) (inr h) = let k = found P xs h in (k.0, inr k.1, k.2)

cons_in : {A : Type 0} (f : A → Bool) (x y : A) (xs : List A) → f y ≡ true → (IsIn x (filter f xs) → IsIn x xs × (f x ≡ true))
    → IsIn x (y ∷ filter f xs) → IsIn x (y ∷ xs) × (f x ≡ true)
cons_in f x y xs t g (inl e) = (inl e, subst (λ z. f z ≡ true) e t)
cons_in f x y xs t g (inr i) = let k = g i in (inr k.0, k.1)

pub in_filter : {A : Type 0} (f : A → Bool) (x : A) (xs : List A) → IsIn x (filter f xs) → IsIn x xs × (f x ≡ true)
in_filter f x [] h = absurd h
in_filter f x (y ∷ ys) h =
    by_test (f y)
    (λ t. cons_in f x y ys t (in_filter f x ys) (rw t at h))
    (λ n. let k = in_filter f x ys (rw n at h) in (inr k.0, k.1))

pub filter_in : {A : Type 0} (f : A → Bool) (x : A) (xs : List A) → IsIn x xs → f x ≡ true → IsIn x (filter f xs)
filter_in f x [] h t = absurd h
filter_in f x (y ∷ ys) (inl e) t = let u : f y ≡ true = subst (λ z. f z ≡ true) (sym e) t in rw u (inl e)
filter_in f x (y ∷ ys) (inr h) t = by_test (f y) (λ u. rw u (inr (filter_in f x ys h t))) (λ n. rw n (filter_in f x ys h t))

pub map_in : {A B : Type 0} (f : A → B) (x : A) (xs : List A) → IsIn x xs → IsIn (f x) (map f xs)
map_in f x [] h = absurd h
map_in f x (y ∷ ys) (inl e) = inl (ap f e)
map_in f x (y ∷ ys) (inr h) = inr (map_in f x ys h)

pub in_map : {A B : Type 0} (f : A → B) (z : B) (xs : List A) → IsIn z (map f xs) → (x : A) × IsIn x xs × (f x ≡ z)
in_map f z [] h = absurd h
in_map f z (y ∷ ys) (inl e) = (y, inl refl, e)
in_map f z (y ∷ ys) (inr h) = let k = in_map f z ys h in (k.0, inr k.1, k.2)

pub map_same : {A B : Type 0} (f g : A → B) (xs : List A) → Each (λ x. f x ≡ g x) xs → map f xs ≡ map g xs
map_same f g [] e = refl
map_same f g (x ∷ xs) e = let h = e.0 in let t = map_same f g xs e.1 in λ i. h i ∷ t i

-- ---- ascending lists

pub cons_ascends : {A : Type 0} (R : A → A → Ordering) (x : A) (xs : List A) → Each (λ y. R x y ≡ Less) xs → Ascends R xs → Ascends R (x ∷ xs)
cons_ascends R x [] e a = tt
cons_ascends R x (y ∷ ys) e a = (e.0, a)

pub Each-filter : {A : Type 0} (P : A → Type 0) (f : A → Bool) (xs : List A) → Each P xs → Each P (filter f xs)
Each-filter P f [] e = tt
Each-filter P f (x ∷ xs) e = by_test (f x) (λ t. rw t (e.0, Each-filter P f xs e.1)) (λ n. rw n (Each-filter P f xs e.1))

pub filter_ascends : {A : Type 0} (R : A → A → Ordering) → IsTotalOrder R → (f : A → Bool) (xs : List A) → Ascends R xs → Ascends R (filter f xs)
filter_ascends R total f [] a = tt
filter_ascends R total f (x ∷ xs) a =
    let tail : Ascends R (filter f xs) = filter_ascends R total f xs (Ascends-tail R total x xs a) in
    by_test (f x) (λ t. rw t (cons_ascends R x (filter f xs) (Each-filter (λ y. R x y ≡ Less) f xs (Ascends-first R total x xs a)) tail)) (λ n. rw n tail)
