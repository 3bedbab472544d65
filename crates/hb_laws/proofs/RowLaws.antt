-- Rows by ascending place: changes keep them so, and what stands at each place tells them.
use Rattle.std.proofs.Common.{◌≡◌, true, false, refl, sym, ◌∙◌, ap, subst, List, [], ◌∷◌}
use Rattle.std.specs.Prelude.{Option, Some, None, ℕ}
use Rattle.std.specs.Ordering.{is_lt, ordering_reverse}
use Rattle.std.specs.declared.cmp.Ordering.{Ordering}
use Rattle.std.specs.declared.cmp.Ordering.TheVariants.{Less, Equal, Greater}
use Rattle.hb_types.specs.declared.change.Change.{Change}
use Rattle.hb_types.specs.declared.change.Stored.{Stored}
use Rattle.hb_types.specs.declared.places.Place.{Place}
use Rattle.hb_types.specs.Lists.{Each}
use Rattle.hb_types.specs.Places.{place_cmp, same_place}
use Rattle.hb_types.specs.Put.{put, with_row, with_stored, without_place, lookup}
use Rattle.hb_types.proofs.Ascending.{irreflexive, Ascends-tail, Ascends-first, Each-of}
use Rattle.hb_types.proofs.PutLaws.{by_test, lookup-without_same}
use Rattle.hb_types.proofs.SamePlace.{same_place-eq, same_place-refl}
use Rattle.hb_laws.specs.RowOrder.{AreAscending}
use Rattle.hb_laws.proofs.Places.{place_total, stored_total, place_equal}

abbrev stored_cmp : Stored → Stored → Ordering
stored_cmp a b = place_cmp a.place b.place

-- ---- places apart

pub less_apart : (p q : Place) → place_cmp p q ≡ Less → same_place p q ≡ false
less_apart p q h =
    by_test (same_place p q)
    (λ t. absurd (irreflexive place_cmp place_total q (subst (λ x. place_cmp x q ≡ Less) (same_place-eq p q t) h)))
    (λ f. f)

pub less_apart_back : (p q : Place) → place_cmp p q ≡ Less → same_place q p ≡ false
less_apart_back p q h =
    by_test (same_place q p)
    (λ t. absurd (irreflexive place_cmp place_total q (subst (λ x. place_cmp x q ≡ Less) (sym (same_place-eq q p t)) h)))
    (λ f. f)

-- ---- what stands below and behind the first row

none_behind : (p : Place) (rows : List Stored) → Each (λ r. place_cmp p r.place ≡ Less) rows → lookup p rows ≡ None
none_behind p [] e = refl
none_behind p (r ∷ rs) e = rw (less_apart p r.place e.0) (none_behind p rs e.1)

pub lookup_first : (r : Stored) (rs : List Stored) → lookup r.place (r ∷ rs) ≡ Some r.row
lookup_first r rs = rw (same_place-refl r.place) refl

behind_all : (p : Place) (r : Stored) (rs : List Stored) → AreAscending (r ∷ rs) → place_cmp p r.place ≡ Less → Each (λ s. place_cmp p s.place ≡ Less) (r ∷ rs)
behind_all p r rs a h =
    (h, Each-of (λ s. stored_cmp r s ≡ Less) (λ s. place_cmp p s.place ≡ Less) rs (λ s k. place_total.trans p r.place s.place h k) (Ascends-first stored_cmp stored_total r rs a))

none_below : (p : Place) (r : Stored) (rs : List Stored) → AreAscending (r ∷ rs) → place_cmp p r.place ≡ Less → lookup p (r ∷ rs) ≡ None
none_below p r rs a h = none_behind p (r ∷ rs) (behind_all p r rs a h)

none_after : (r : Stored) (rs : List Stored) → AreAscending (r ∷ rs) → lookup r.place rs ≡ None
none_after r rs a = none_behind r.place rs (Ascends-first stored_cmp stored_total r rs a)

-- ---- the same lookups

some_none : (row : List ℕ) → Some row ≡ None → ⊥
some_none row e = cc

tails_same : (x : Stored) (xs ys : List Stored) → AreAscending (x ∷ xs) → AreAscending (x ∷ ys)
    → ((p : Place) → lookup p (x ∷ xs) ≡ lookup p (x ∷ ys)) → (p : Place) → lookup p xs ≡ lookup p ys
tails_same x xs ys a b same p =
    by_test (same_place p x.place)
    (λ t. let e : p ≡ x.place = same_place-eq p x.place t in rw e (none_after x xs a ∙ sym (none_after x ys b)))
    (λ f. let h = same p in rw f at h)

first_same : (o : Ordering) (x y : Stored) (xs ys : List Stored) → place_cmp x.place y.place ≡ o → AreAscending (x ∷ xs) → AreAscending (y ∷ ys)
    → ((p : Place) → lookup p (x ∷ xs) ≡ lookup p (y ∷ ys)) → x ≡ y
first_same Less x y xs ys h a b same = absurd (some_none x.row (sym (lookup_first x xs) ∙ same x.place ∙ none_below x.place y ys b h))
first_same Greater x y xs ys h a b same =
    let back : place_cmp y.place x.place ≡ Less = place_total.antisymm y.place x.place ∙ ap ordering_reverse h in
    absurd (some_none y.row (sym (lookup_first y ys) ∙ sym (same y.place) ∙ none_below y.place x xs a back))
first_same Equal x y xs ys h a b same =
    let e : x.place ≡ y.place = place_equal x.place y.place h in
    let there : lookup x.place (y ∷ ys) ≡ Some y.row = subst (λ p. lookup p (y ∷ ys) ≡ Some y.row) (sym e) (lookup_first y ys) in
    let r : x.row ≡ y.row = some_same x.row y.row (sym (lookup_first x xs) ∙ same x.place ∙ there) in
    λ i. record { place = e i; row = r i }
  where
    some_same : (a b : List ℕ) → Some a ≡ Some b → a ≡ b
    some_same a b e = cc

pub rows_same : (xs ys : List Stored) → AreAscending xs → AreAscending ys → ((p : Place) → lookup p xs ≡ lookup p ys) → xs ≡ ys
rows_same [] [] a b same = refl
rows_same [] (y ∷ ys) a b same = absurd (some_none y.row (sym (lookup_first y ys) ∙ sym (same y.place)))
rows_same (x ∷ xs) [] a b same = absurd (some_none x.row (sym (lookup_first x xs) ∙ same x.place))
rows_same (x ∷ xs) (y ∷ ys) a b same =
    let e : x ≡ y = first_same (place_cmp x.place y.place) x y xs ys refl a b same in
    let b2 : AreAscending (x ∷ ys) = subst (λ z. AreAscending (z ∷ ys)) (sym e) b in
    let same2 : (p : Place) → lookup p (x ∷ xs) ≡ lookup p (x ∷ ys) = subst (λ z. (p : Place) → lookup p (x ∷ xs) ≡ lookup p (z ∷ ys)) (sym e) same in
    let t : xs ≡ ys = rows_same xs ys (Ascends-tail stored_cmp stored_total x xs a) (Ascends-tail stored_cmp stored_total y ys b) (tails_same x xs ys a b2 same2) in
    λ i. e i ∷ t i

-- ---- changes keep the order

-- a row before rows that it is below
cons_ascends : (r : Stored) (rs : List Stored) → Each (λ s. stored_cmp r s ≡ Less) rs → AreAscending rs → AreAscending (r ∷ rs)
cons_ascends r [] e a = tt
cons_ascends r (s ∷ ss) e a = (e.0, a)

each_without : (P : Stored → Type 0) (p : Place) (rows : List Stored) → Each P rows → Each P (without_place p rows)
each_without P p [] e = tt
each_without P p (r ∷ rs) e =
    by_test (same_place p r.place) (λ t. rw t (each_without P p rs e.1)) (λ f. rw f (e.0, each_without P p rs e.1))

without_ascends : (p : Place) (rows : List Stored) → AreAscending rows → AreAscending (without_place p rows)
without_ascends p [] a = tt
without_ascends p (r ∷ rs) a =
    let tail : AreAscending (without_place p rs) = without_ascends p rs (Ascends-tail stored_cmp stored_total r rs a) in
    by_test (same_place p r.place) (λ t. rw t tail)
    (λ f. rw f (cons_ascends r (without_place p rs) (each_without (λ s. stored_cmp r s ≡ Less) p rs (Ascends-first stored_cmp stored_total r rs a)) tail))

each_with : (P : Stored → Type 0) (s : Stored) (rows : List Stored) → P s → Each P rows → Each P (with_stored s rows)
each_with P s [] h e = (h, tt)
each_with P s (r ∷ rs) h e =
    by_test (is_lt (place_cmp r.place s.place)) (λ t. rw t (e.0, each_with P s rs h e.1)) (λ f. rw f (h, e))

-- of two places that are apart one is below the other
above : (o : Ordering) (r s : Stored) → place_cmp r.place s.place ≡ o → is_lt o ≡ false → same_place s.place r.place ≡ false → place_cmp s.place r.place ≡ Less
above Less r s h l n = absurd (no l)
  where
    no : true ≡ false → ⊥
    no e = cc
above Equal r s h l n = absurd (no (rw (place_equal r.place s.place h, same_place-refl s.place) at n))
  where
    no : true ≡ false → ⊥
    no e = cc
above Greater r s h l n = place_total.antisymm s.place r.place ∙ ap ordering_reverse h

is_less : (o : Ordering) → is_lt o ≡ true → o ≡ Less
is_less Less e = refl
is_less Equal e = cc
is_less Greater e = cc

with_ascends : (s : Stored) (rows : List Stored) → lookup s.place rows ≡ None → AreAscending rows → AreAscending (with_stored s rows)
with_ascends s [] n a = tt
with_ascends s (r ∷ rs) n a =
    let apart : same_place s.place r.place ≡ false = by_test (same_place s.place r.place) (λ t. absurd (some_none r.row (rw t at n))) (λ f. f) in
    let rest : lookup s.place rs ≡ None = rw apart at n in
    by_test (is_lt (place_cmp r.place s.place))
    (λ t. rw t
    (cons_ascends r (with_stored s rs)
    (each_with (λ q. stored_cmp r q ≡ Less) s rs (is_less (place_cmp r.place s.place) t) (Ascends-first stored_cmp stored_total r rs a))
    (with_ascends s rs rest (Ascends-tail stored_cmp stored_total r rs a))))
    (λ f. rw f (above (place_cmp r.place s.place) r s refl f apart, a))

with_row_ascends : (p : Place) (o : Option (List ℕ)) (rows : List Stored) → AreAscending rows → AreAscending (with_row p o (without_place p rows))
with_row_ascends p None rows a = without_ascends p rows a
with_row_ascends p (Some row) rows a =
    with_ascends (record { place = p; row = row }) (without_place p rows) (lookup-without_same p rows) (without_ascends p rows a)

pub put_ascends : (rows : List Stored) (c : Change) → AreAscending rows → AreAscending (put rows c)
put_ascends rows c a = with_row_ascends c.place c.row rows a
