-- Sorting by key and by number: the order, and the members.
use Rattle.std.proofs.Common.{◌≡◌, inl, inr, ℕ, ◌<◌, ℤ, List, [], ◌∷◌, true, false, refl, subst, sym, ap, ◌∙◌, arith}
use Rattle.std.specs.Prelude.{◌==◌, nat_lt, fold}
use Rattle.std.specs.Ordering.{int_cmp, nat_cmp, is_lt, is_eq, ordering_reverse}
use Rattle.std.specs.Cmp.{nat_cmp_is}
use Rattle.std.specs.declared.cmp.Ordering.{Ordering}
use Rattle.std.specs.declared.cmp.Ordering.TheVariants.{Less, Equal, Greater}
use Rattle.std.proofs.lemmas.Bool.{false≢true}
use Rattle.std.proofs.lemmas.Bool.Decides.{Decides-int_eq, Decides-eqb, nat_tests}
use Rattle.std.proofs.lemmas.Cmp.{int_cmp_total, nat_cmp_total, on_total}
use Rattle.hb_types.specs.Lists.{Ascends, Each, IsIn}
use Rattle.hb_types.proofs.Ascending.{Ascends-first, Ascends-tail}
use Rattle.hb_types.proofs.PutLaws.{by_test}
use Rattle.hb_model.specs.Spots.{ascending, with_number}
use Rattle.hb_talk.specs.Plans.{Lying}
use Rattle.hb_talk.specs.Plans as plans
use Rattle.hb_planwrites.proofs.ListWrites.{by_key}
use Rattle.hb_planwrites.proofs.RowsPut.{first_below}

-- ---- rows by key

-- the keys of the list are other than this row's
abbrev pub Away : Lying → List Lying → Type 0
Away l ls = Each (λ (m : Lying). m.0.key ≡ l.0.key → ⊥) ls

-- no two have one key
abbrev pub KeysApart : List Lying → Type 0
KeysApart [] = Unit {0}
KeysApart (l ∷ ls) = Each (λ (m : Lying). m.0.key ≡ l.0.key → ⊥) ls × KeysApart ls

abbrev sorted : List Lying → List Lying → List Lying
sorted done ls = fold (λ ms l. plans.by_key l ms) done ls

each_inserted : (P : Lying → Type 0) (l : Lying) (ls : List Lying) → P l → Each P ls → Each P (plans.by_key l ls)
each_inserted P l [] h e = (h, tt)
each_inserted P l (m ∷ ms) h e =
    by_test (is_lt (int_cmp l.0.key m.0.key)) (λ t. rw t (h, e)) (λ f. rw f (e.0, each_inserted P l ms h e.1))

pub each_sorted : (P : Lying → Type 0) (ls done : List Lying) → Each P done → Each P ls → Each P (sorted done ls)
each_sorted P [] done d e = d
each_sorted P (l ∷ ls) done d e = each_sorted P ls (plans.by_key l done) (each_inserted P l done e.0 d) e.1

inserted_in : (l : Lying) (ls : List Lying) → IsIn l (plans.by_key l ls)
inserted_in l [] = inl refl
inserted_in l (m ∷ ms) = by_test (is_lt (int_cmp l.0.key m.0.key)) (λ t. rw t (inl refl)) (λ f. rw f (inr (inserted_in l ms)))

kept_in : (x l : Lying) (ls : List Lying) → IsIn x ls → IsIn x (plans.by_key l ls)
kept_in x l [] i = absurd i
kept_in x l (m ∷ ms) (inl e) = by_test (is_lt (int_cmp l.0.key m.0.key)) (λ t. rw t (inr (inl e))) (λ f. rw f (inl e))
kept_in x l (m ∷ ms) (inr i) = by_test (is_lt (int_cmp l.0.key m.0.key)) (λ t. rw t (inr (inr i))) (λ f. rw f (inr (kept_in x l ms i)))

done_in : (x : Lying) (ls done : List Lying) → IsIn x done → IsIn x (sorted done ls)
done_in x [] done i = i
done_in x (l ∷ ls) done i = done_in x ls (plans.by_key l done) (kept_in x l done i)

pub sorted_in : (x : Lying) (ls done : List Lying) → IsIn x ls → IsIn x (sorted done ls)
sorted_in x [] done i = absurd i
sorted_in x (l ∷ ls) done (inl e) = done_in x ls (plans.by_key l done) (subst (λ z. IsIn z (plans.by_key l done)) e (inserted_in l done))
sorted_in x (l ∷ ls) done (inr i) = sorted_in x ls (plans.by_key l done) i

is_less : (o : Ordering) → is_lt o ≡ true → o ≡ Less
is_less Less e = refl
is_less Equal e = absurd (false≢true e)
is_less Greater e = absurd (false≢true e)

above : (o : Ordering) (j k : ℤ) → int_cmp j k ≡ o → is_lt o ≡ false → (k ≡ j → ⊥) → int_cmp k j ≡ Less
above Less j k h l n = absurd (false≢true (sym l))
above Equal j k h l n = absurd (n (sym ((Decides-int_eq j k).0 (ap is_eq h))))
above Greater j k h l n = int_cmp_total.antisymm k j ∙ ap ordering_reverse h

insert_ascends : (l : Lying) (ls : List Lying) → Ascends by_key ls → Away l ls → Ascends by_key (plans.by_key l ls)
insert_ascends l [] a w = tt
insert_ascends l (m ∷ ms) a w =
    let order = on_total (λ (x : Lying). x.0.key) int_cmp_total in
    by_test (is_lt (int_cmp l.0.key m.0.key))
    (λ t. rw t (is_less (int_cmp l.0.key m.0.key) t, a))
    (λ f. let below : by_key m l ≡ Less = above (int_cmp l.0.key m.0.key) l.0.key m.0.key refl f w.0 in
    rw f (first_below by_key order m (plans.by_key l ms) (each_inserted (λ y. by_key m y ≡ Less) l ms below (Ascends-first by_key order m ms a)) (insert_ascends l ms (Ascends-tail by_key order m ms a) w.1)))

each_away : (l : Lying) (ls done : List Lying) → Each (λ m. Away m done) ls → Each (λ (m : Lying). m.0.key ≡ l.0.key → ⊥) ls → Each (λ m. Away m (plans.by_key l done)) ls
each_away l [] done e n = tt
each_away l (m ∷ ms) done e n = (each_inserted (λ (x : Lying). x.0.key ≡ m.0.key → ⊥) l done (λ h. n.0 (sym h)) e.0, each_away l ms done e.1 n.1)

sorted_ascends_from : (ls done : List Lying) → Ascends by_key done → Each (λ m. Away m done) ls → KeysApart ls → Ascends by_key (sorted done ls)
sorted_ascends_from [] done a e k = a
sorted_ascends_from (l ∷ ls) done a e k = sorted_ascends_from ls (plans.by_key l done) (insert_ascends l done a e.0) (each_away l ls done e.1 k.0) k.1

all_away : (ls : List Lying) → Each (λ m. Away m []) ls
all_away [] = tt
all_away (l ∷ ls) = (tt, all_away ls)

pub sorted_ascends : (ls : List Lying) → KeysApart ls → Ascends by_key (sorted [] ls)
sorted_ascends ls k = sorted_ascends_from ls [] tt (all_away ls) k

-- ---- numbers

each_with : (P : ℕ → Type 0) (n : ℕ) (ms : List ℕ) → P n → Each P ms → Each P (with_number n ms)
each_with P n [] h e = (h, tt)
each_with P n (m ∷ ms) h e =
    by_test (nat_lt n m) (λ t. rw t (h, e)) (λ f. by_test (n == m) (λ t. rw (f, t) e) (λ g. rw (f, g) (e.0, each_with P n ms h e.1)))

with_in : (n : ℕ) (ms : List ℕ) → IsIn n (with_number n ms)
with_in n [] = inl refl
with_in n (m ∷ ms) =
    by_test (nat_lt n m) (λ t. rw t (inl refl)) (λ f. by_test (n == m) (λ t. rw (f, t) (inl (sym ((Decides-eqb n m).0 t)))) (λ g. rw (f, g) (inr (with_in n ms))))

with_kept : (x n : ℕ) (ms : List ℕ) → IsIn x ms → IsIn x (with_number n ms)
with_kept x n [] i = absurd i
with_kept x n (m ∷ ms) (inl e) =
    by_test (nat_lt n m) (λ t. rw t (inr (inl e))) (λ f. by_test (n == m) (λ t. rw (f, t) (inl e)) (λ g. rw (f, g) (inl e)))
with_kept x n (m ∷ ms) (inr i) =
    by_test (nat_lt n m) (λ t. rw t (inr (inr i))) (λ f. by_test (n == m) (λ t. rw (f, t) (inr i)) (λ g. rw (f, g) (inr (with_kept x n ms i))))

nat_less : (n m : ℕ) → n < m → nat_cmp n m ≡ Less
nat_less n m h = sym (nat_cmp_is n m Less h)

with_ascends : (n : ℕ) (ms : List ℕ) → Ascends nat_cmp ms → Ascends nat_cmp (with_number n ms)
with_ascends n [] a = tt
with_ascends n (m ∷ ms) a =
    by_test (nat_lt n m)
    (λ t. rw t (nat_less n m (let l : n < m = grind (arith, nat_tests) in l), a))
    (λ f. by_test (n == m) (λ t. rw (f, t) a)
    (λ g. let below : nat_cmp m n ≡ Less = nat_less m n (let l : m < n = grind (arith, nat_tests) in l) in
    rw (f, g) (first_below nat_cmp nat_cmp_total m (with_number n ms) (each_with (λ y. nat_cmp m y ≡ Less) n ms below (Ascends-first nat_cmp nat_cmp_total m ms a))
    (with_ascends n ms (Ascends-tail nat_cmp nat_cmp_total m ms a)))))

abbrev numbers : List ℕ → List ℕ → List ℕ
numbers done xs = fold (λ ns n. with_number n ns) done xs

each_number_from : (P : ℕ → Type 0) (xs done : List ℕ) → Each P done → Each P xs → Each P (numbers done xs)
each_number_from P [] done d e = d
each_number_from P (x ∷ xs) done d e = each_number_from P xs (with_number x done) (each_with P x done e.0 d) e.1

pub each_number : (P : ℕ → Type 0) (xs : List ℕ) → Each P xs → Each P (ascending xs)
each_number P xs e = each_number_from P xs [] tt e

done_number : (x : ℕ) (xs done : List ℕ) → IsIn x done → IsIn x (numbers done xs)
done_number x [] done i = i
done_number x (y ∷ ys) done i = done_number x ys (with_number y done) (with_kept x y done i)

number_from : (x : ℕ) (xs done : List ℕ) → IsIn x xs → IsIn x (numbers done xs)
number_from x [] done i = absurd i
number_from x (y ∷ ys) done (inl e) = done_number x ys (with_number y done) (subst (λ z. IsIn z (with_number y done)) e (with_in y done))
number_from x (y ∷ ys) done (inr i) = number_from x ys (with_number y done) i

pub number_in : (x : ℕ) (xs : List ℕ) → IsIn x xs → IsIn x (ascending xs)
number_in x xs i = number_from x xs [] i

numbers_ascend_from : (xs done : List ℕ) → Ascends nat_cmp done → Ascends nat_cmp (numbers done xs)
numbers_ascend_from [] done a = a
numbers_ascend_from (x ∷ xs) done a = numbers_ascend_from xs (with_number x done) (with_ascends x done a)

pub numbers_ascend : (xs : List ℕ) → Ascends nat_cmp (ascending xs)
numbers_ascend xs = numbers_ascend_from xs [] tt
