-- The position of a place among changes by ascending place, and what a change there makes of them.
use Rattle.std.proofs.Common.{◌≡◌, ◌≢◌, ℕ, zero, suc, ◌+◌, ◌<◌, ◌≤◌, Bool, true, false, cond, refl, sym, ◌∙◌, ap, List, [], ◌∷◌, length, get_or, set, take, drop, Some, None, Option, if◌then◌else◌, arith}
use Rattle.std.specs.List.{slice_get, insert, AllWithin}
use Rattle.std.specs.List.Sorted.{IsPartitionedBy, IsPartitionPoint}
use Rattle.std.specs.Ordering.{is_lt, ordering_reverse}
use Rattle.std.specs.declared.cmp.Ordering.{Ordering}
use Rattle.std.specs.declared.cmp.Ordering.TheVariants.{Less, Equal, Greater}
use Rattle.std.proofs.lemmas.Bool.{true≢false, false≢true}
use Rattle.hb_types.specs.declared.change.Change.{Change}
use Rattle.hb_types.specs.declared.places.Place.{Place}
use Rattle.hb_types.specs.Lists.{Ascends, Each}
use Rattle.hb_types.specs.Places.{place_cmp, same_place}
use Rattle.hb_types.specs.Put.{with_change, without_change, last_at}
use Rattle.hb_types.proofs.Ascending.{Ascends-first, Ascends-tail, Each-of}
use Rattle.hb_types.proofs.PutLaws.{by_test}
use Rattle.hb_types.proofs.SamePlace.{same_place-eq, same_place-refl}
use Rattle.hb_laws.proofs.Places.{place_total, place_equal}
use Rattle.hb_laws.proofs.RowLaws.{less_apart, less_apart_back}
use Rattle.std.specs.Cmp.{IsTotalOrder}
use Rattle.std.proofs.lemmas.Cmp.{on_total}
use Rattle.hb_branch.specs.Overlays.{change_cmp, putting, rank, seen, stands}

pub change_total : IsTotalOrder change_cmp
change_total = on_total (λ (c : Change). c.place) place_total

abbrev pub below : Place → Change → Bool
below p c = is_lt (place_cmp c.place p)

pub is_less : (o : Ordering) → is_lt o ≡ true → o ≡ Less
is_less Less e = refl
is_less Equal e = cc
is_less Greater e = cc

-- of two places of which the first is not below, the second is below or the same
pub not_less : (p q : Place) → is_lt (place_cmp p q) ≡ false → same_place p q ≡ false → place_cmp q p ≡ Less
not_less p q f n = by (place_cmp p q) refl
  where
    by : (o : Ordering) → place_cmp p q ≡ o → place_cmp q p ≡ Less
    by Less e = absurd (true≢false (sym (ap is_lt e) ∙ f))
    by Equal e = absurd (true≢false (sym (ap (λ z. same_place z q) (place_equal p q e) ∙ same_place-refl q) ∙ n))
    by Greater e = place_total.antisymm q p ∙ ap ordering_reverse e

pub same_place-sym : (p q : Place) → same_place p q ≡ same_place q p
same_place-sym p q =
    by_test (same_place p q)
    (λ t. let e = same_place-eq p q t in t ∙ sym (ap (λ z. same_place q z) e ∙ same_place-refl q))
    (λ f. f ∙ sym (by_test (same_place q p) (λ t. absurd (false≢true (sym f ∙ ap (λ z. same_place p z) (same_place-eq q p t) ∙ same_place-refl p))) (λ g. g)))

pub each_at : (P : Change → Type 0) (cs : List Change) (i : ℕ) (d : Change) → Each P cs → i < length cs → P (get_or cs i d)
each_at P [] i d e l = absurd (omega arith)
each_at P (c ∷ cs) zero d e l = e.0
each_at P (c ∷ cs) (suc i) d e l = each_at P cs i d e.1 (omega arith)

pub partitioned : (p : Place) (cs : List Change) → Ascends change_cmp cs → IsPartitionedBy (below p) cs
partitioned p [] a i j d le l e = absurd (omega arith)
partitioned p (c ∷ cs) a zero zero d le l e = e
partitioned p (c ∷ cs) a zero (suc j) d le l e =
    let h : place_cmp c.place (get_or cs j d).place ≡ Less = each_at (λ y. change_cmp c y ≡ Less) cs j d (Ascends-first change_cmp change_total c cs a) (omega arith) in
    ap is_lt (place_total.trans c.place (get_or cs j d).place p h (is_less (place_cmp (get_or cs j d).place p) e))
partitioned p (c ∷ cs) a (suc i) zero d le l e = absurd (omega arith)
partitioned p (c ∷ cs) a (suc i) (suc j) d le l e = partitioned p cs (Ascends-tail change_cmp change_total c cs a) i j d (omega arith) (omega arith) e

pub rank_is : (p : Place) (cs : List Change) (i : ℕ) → i ≤ length cs → IsPartitionPoint (λ y. below p y ≡ true) (λ y. below p y ≡ false) cs i → i ≡ rank p cs
rank_is p [] zero le point = refl
rank_is p [] (suc i) le point = absurd (omega arith)
rank_is p (c ∷ cs) zero le point = let h : below p c ≡ false = point.1 0 c (omega arith) (omega arith) in sym (ap (λ b. if b then suc (rank p cs) else 0) h)
rank_is p (c ∷ cs) (suc i) le point =
    let h : below p c ≡ true = point.0 0 c (omega arith) (omega arith) in
    let r : i ≡ rank p cs = rank_is p cs i (omega arith) ((λ k d lo hi. point.0 (suc k) d (omega arith) (omega arith)), (λ k d lo hi. point.1 (suc k) d (omega arith) (omega arith))) in
    ap suc r ∙ sym (ap (λ b. if b then suc (rank p cs) else 0) h)

-- ---- what stands at a place

behind : (p : Place) (c : Change) (cs : List Change) → Ascends change_cmp (c ∷ cs) → place_cmp p c.place ≡ Less → Each (λ d. place_cmp p d.place ≡ Less) cs
behind p c cs a h = Each-of (λ d. change_cmp c d ≡ Less) (λ d. place_cmp p d.place ≡ Less) cs (λ d k. place_total.trans p c.place d.place h k) (Ascends-first change_cmp change_total c cs a)

last_at-behind : (p : Place) (cs : List Change) (old : Option (List ℕ)) → Each (λ d. place_cmp p d.place ≡ Less) cs → last_at p cs old ≡ old
last_at-behind p [] old e = refl
last_at-behind p (c ∷ cs) old e = rw (less_apart p c.place e.0) (last_at-behind p cs old e.1)

after_first : (c : Change) (cs : List Change) → Ascends change_cmp (c ∷ cs) → (p : Place) → p ≡ c.place → Each (λ d. place_cmp p d.place ≡ Less) cs
after_first c cs a p e = rw e (Ascends-first change_cmp change_total c cs a)

pub read_at : (p : Place) (cs : List Change) (old : Option (List ℕ)) → Ascends change_cmp cs → last_at p cs old ≡ seen p old (slice_get cs (rank p cs))
read_at p [] old a = refl
read_at p (c ∷ cs) old a =
    by_test (below p c)
    (λ t. rw (t, less_apart_back c.place p (is_less (place_cmp c.place p) t)) (read_at p cs old (Ascends-tail change_cmp change_total c cs a)))
    (λ f. rw f (by_test (same_place c.place p)
    (λ s. rw (s, same_place-sym p c.place, s) (last_at-behind p cs c.row (after_first c cs a p (sym (same_place-eq c.place p s)))))
    (λ n. rw (n, same_place-sym p c.place, n) (last_at-behind p cs old (behind p c cs a (not_less c.place p f n))))))

-- ---- a change more

without-behind : (p : Place) (cs : List Change) → Each (λ d. place_cmp p d.place ≡ Less) cs → without_change p cs ≡ cs
without-behind p [] e = refl
without-behind p (c ∷ cs) e = rw (less_apart p c.place e.0) (ap (λ t. c ∷ t) (without-behind p cs e.1))

less_back : (p q : Place) → place_cmp p q ≡ Less → is_lt (place_cmp q p) ≡ false
less_back p q h = ap is_lt (place_total.antisymm q p ∙ ap ordering_reverse h)

with-behind : (c : Change) (cs : List Change) → Each (λ d. place_cmp c.place d.place ≡ Less) cs → with_change c cs ≡ c ∷ cs
with-behind c [] e = refl
with-behind c (d ∷ ds) e = rw (less_back c.place d.place e.0) refl

abbrev pub placed : Change → List Change → ℕ → Bool → List Change
placed c cs i true = set cs i c
placed c cs i false = insert cs i c

placed-more : (c d : Change) (cs : List Change) (i : ℕ) (b : Bool) → d ∷ placed c cs i b ≡ placed c (d ∷ cs) (suc i) b
placed-more c d cs i true = refl
placed-more c d cs i false = refl

pub putting_is : (c : Change) (cs : List Change) → Ascends change_cmp cs → putting c cs ≡ placed c cs (rank c.place cs) (stands c.place (slice_get cs (rank c.place cs)))
putting_is c [] a = refl
putting_is c (d ∷ ds) a =
    by_test (below c.place d)
    (λ t. let l : place_cmp d.place c.place ≡ Less = is_less (place_cmp d.place c.place) t in
    rw (t, less_apart_back d.place c.place l, t)
    (ap (λ r. d ∷ r) (putting_is c ds (Ascends-tail change_cmp change_total d ds a))
    ∙ placed-more c d ds (rank c.place ds) (stands c.place (slice_get ds (rank c.place ds)))))
    (λ f. rw f (by_test (same_place d.place c.place)
    (λ s. let above = after_first d ds a c.place (sym (same_place-eq d.place c.place s)) in
    rw (s, same_place-sym c.place d.place, s, without-behind c.place ds above, with-behind c ds above) refl)
    (λ n. let h : place_cmp c.place d.place ≡ Less = not_less d.place c.place f n in
    rw (n, same_place-sym c.place d.place, n, without-behind c.place ds (behind c.place d ds a h), f) refl)))
