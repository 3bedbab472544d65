-- Finding by name in lists that grow or whose items change.
use Rattle.std.proofs.Common.{◌≡◌, Bool, true, false, cond, refl, sym, ◌∙◌, ap, subst, map, List, [], ◌∷◌, ◌++◌}
use Rattle.std.specs.Prelude.{Some, None, find, ℕ, is_some}
use Rattle.std.specs.Ordering.{is_lt, nat_cmp}
use Rattle.std.specs.Str.{bytes_eq}
use Rattle.std.proofs.lemmas.Slice.Eq.{bytes_eq-Decides}
use Rattle.hb_types.proofs.PutLaws.{by_test}
use Rattle.hb_model.specs.declared.table.Table.{Table}
use Rattle.hb_model.specs.Names.{text_cmp}
use Rattle.hb_model.specs.State.{Area, with_area, with_table}

none_some : {A : Type 0} (x : A) → None ≡ Some x → ⊥
none_some x h = cc

some_of : {A : Type 0} (x y : A) → Some x ≡ Some y → x ≡ y
some_of x y h = cc

-- what is found is found with more behind
pub find-more : {A : Type 0} (p : A → Bool) (xs ys : List A) (x : A) → find p xs ≡ Some x → find p (xs ++ ys) ≡ Some x
find-more p [] ys x h = absurd (none_some x h)
find-more p (z ∷ zs) ys x h =
    by_test (p z)
    (λ t. let k : Some z ≡ Some x = rw t at h in rw t k)
    (λ f. let k : find p zs ≡ Some x = rw f at h in rw f (find-more p zs ys x k))

-- among changed items that pass the test as before the changed one is found
pub find-changed : {A : Type 0} (p : A → Bool) (f : A → A) (xs : List A) (x : A) → ((y : A) → p (f y) ≡ p y) → find p xs ≡ Some x
    → find p (map f xs) ≡ Some (f x)
find-changed p f [] x same h = absurd (none_some x h)
find-changed {A} p f (z ∷ zs) x same h =
    by_test (p z)
    (λ t. let k : Some z ≡ Some x = rw t at h in let e : z ≡ x = some_of z x k in
    let u : p (f z) ≡ true = same z ∙ t in rw u (ap (λ (w : A). Some (f w)) e))
    (λ n. let k : find p zs ≡ Some x = rw n at h in let u : p (f z) ≡ false = same z ∙ n in rw u (find-changed p f zs x same k))

-- ---- sorted lists with one more

true_false : true ≡ false → ⊥
true_false e = cc

-- a name that is found is not that of an item whose name is not
pub other_name : {A : Type 0} (name_of : A → List ℕ) (xs : List A) (new name : List ℕ) (x : A)
    → is_some (find (λ y. bytes_eq (name_of y) new) xs) ≡ false → find (λ y. bytes_eq (name_of y) name) xs ≡ Some x → bytes_eq new name ≡ false
other_name {A} name_of xs new name x free h =
    by_test (bytes_eq new name)
    (λ t. let e : new ≡ name = (bytes_eq-Decides new name).0 t in
    let k : find (λ y. bytes_eq (name_of y) new) xs ≡ Some x = subst (λ n. find (λ y. bytes_eq (name_of y) n) xs ≡ Some x) (sym e) h in
    absurd (true_false (ap is_some (sym k) ∙ free)))
    (λ f. f)

pub find-with_area : (a : Area) (bs : List Area) (name : List ℕ) → bytes_eq a.name name ≡ false
    → find (λ b. bytes_eq b.name name) (with_area a bs) ≡ find (λ b. bytes_eq b.name name) bs
find-with_area a [] name n = rw n refl
find-with_area a (b ∷ bs) name n =
    by_test (is_lt (nat_cmp a.number b.number))
    (λ t. rw (t, n) refl)
    (λ f. rw f (ap (λ z. cond (bytes_eq b.name name) (Some b) z) (find-with_area a bs name n)))

pub find-with_table : (t : Table) (us : List Table) (name : List ℕ) → bytes_eq t.name name ≡ false
    → find (λ u. bytes_eq u.name name) (with_table t us) ≡ find (λ u. bytes_eq u.name name) us
find-with_table t [] name n = rw n refl
find-with_table t (u ∷ us) name n =
    by_test (is_lt (text_cmp t.name u.name))
    (λ e. rw (e, n) refl)
    (λ f. rw f (ap (λ z. cond (bytes_eq u.name name) (Some u) z) (find-with_table t us name n)))
