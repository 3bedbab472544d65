-- Rows that are read from bytes are the only ones.
use Rattle.std.proofs.Common.{◌≡◌, ℕ, zero, suc, ◌+◌, ◌-◌, ◌<◌, ◌≤◌, true, false, List, [], ◌∷◌, ◌++◌, length, take, drop, get_or, Some, None, Option, refl, ap, sym, ◌∙◌, subst, arith, append_assoc, append-nil, length-append}
use Rattle.std.specs.Ordering.{is_lt}
use Rattle.std.specs.declared.cmp.Ordering.{Ordering}
use Rattle.std.specs.declared.cmp.Ordering.TheVariants.{Less, Equal, Greater}
use Rattle.std.proofs.lemmas.List.{take-append-drop, take_at, drop_at, drop-drop, drop-take, take-take, take_all, length-take, length-drop}
use Rattle.std.proofs.lemmas.Bool.{true≢false}
use Rattle.hb_codec.specs.Reading.{Finds, Misreads, OneForm}
use Rattle.hb_codec.specs.Spellings.{IsChangeOf}
use Rattle.hb_types.specs.declared.change.Change.{Change}
use Rattle.hb_types.specs.declared.change.Stored.{Stored}
use Rattle.hb_types.specs.declared.places.Place.{Place}
use Rattle.hb_types.specs.Lists.{Each}
use Rattle.hb_types.specs.Places.{place_cmp}
use Rattle.hb_types.specs.Records.{change_bytes}
use Rattle.hb_laws.specs.RowOrder.{AreAscending}
use Rattle.hb_disks.specs.WholeImage.{as_change}
use Rattle.hb_store.specs.Meanings.{IsStored}
use Rattle.hb_whole.specs.Read.{Follow, GoesOnNever, HasNoRow, IsFront, Reading, is_above}
use Rattle.hb_whole.proofs.Encoded.{bytes_of, bytes_append}

abbrev or_empty : Option (List ℕ) → List ℕ
or_empty None = []
or_empty (Some row) = row

pub stored_eq : (a b : Stored) → as_change a ≡ as_change b → a ≡ b
stored_eq a b e =
    let p : a.place ≡ b.place = ap (λ (c : Change). c.place) e in
    let r : a.row ≡ b.row = ap (λ (c : Change). or_empty c.row) e in
    λ i. record { place = p i; row = r i }

-- a row that is a front of the bytes is the only one
same_front : OneForm IsChangeOf → (bytes more : List ℕ) (row r : Stored) (used : ℕ) → IsFront bytes row used → IsStored r → bytes ≡ change_bytes (as_change r) ++ more → (row ≡ r) × (drop used bytes ≡ more)
same_front one bytes more row r used front stored is =
    let h = one (as_change row) (as_change r) (take used bytes) (change_bytes (as_change r)) (drop used bytes) more (record { fits = front.fits; spelled = front.spelled }) (record { fits = stored; spelled = refl }) (take-append-drop used bytes ∙ is) in
    let long : used ≡ length (change_bytes (as_change r)) = omega (arith, ap length h.0, length-take used bytes, front.within) in
    (stored_eq row r h.1, ap (λ (n : ℕ). drop n bytes) long ∙ ap (drop (length (change_bytes (as_change r)))) is ∙ drop_at (change_bytes (as_change r)) more (length (change_bytes (as_change r))) refl)

pub found_front : (bytes : List ℕ) (place : Place) (row : List ℕ) (used : ℕ) → Finds IsChangeOf bytes (record { place = place; row = Some row }) used → IsFront bytes (record { place = place; row = row }) used
found_front bytes place row used f = record { within = f.within; spelled = f.spelled.spelled; fits = f.spelled.fits }

pub no_row_found : OneForm IsChangeOf → (bytes : List ℕ) (change : Change) (used : ℕ) → Finds IsChangeOf bytes change used → change.row ≡ None → HasNoRow bytes
no_row_found one bytes change used f none row more stored is =
    let h = one change (as_change row) (take used bytes) (change_bytes (as_change row)) (drop used bytes) more f.spelled (record { fits = stored; spelled = refl }) (take-append-drop used bytes ∙ is) in
    none_some row.row (sym none ∙ ap (λ (c : Change). c.row) h.1)
  where
    none_some : (r : List ℕ) → None ≡ Some r → ⊥
    none_some r e = cc

pub no_row_read : (bytes : List ℕ) (place : ℕ) → Misreads IsChangeOf bytes place → HasNoRow bytes
no_row_read bytes place m row more stored is =
    let cb = change_bytes (as_change row) in
    m.none (as_change row) (length (change_bytes (as_change row))) (omega (arith, ap length is, length-append (change_bytes (as_change row)) more))
    (record { fits = stored; spelled = ap (take (length (change_bytes (as_change row)))) is ∙ take_at (change_bytes (as_change row)) more (length (change_bytes (as_change row))) refl })

pub never_read : (done : List Stored) (rest : List ℕ) → HasNoRow rest → GoesOnNever done rest
never_read done rest none left [] f = absurd (omega (arith, f.count))
never_read done rest none left (r ∷ rs) f = none r (bytes_of rs) f.fit.0 f.spelled

above_last : (done : List Stored) (r : Stored) (rs : List Stored) → AreAscending (done ++ r ∷ rs) → is_above r.place done ≡ true
above_last [] r rs a = refl
above_last (x ∷ []) r rs a = ap is_lt a.0
above_last (x ∷ y ∷ ys) r rs a = above_last (y ∷ ys) r rs a.1

pub never_above : OneForm IsChangeOf → (done : List Stored) (rest : List ℕ) (row : Stored) (used : ℕ) → IsFront rest row used → is_above row.place done ≡ false → GoesOnNever done rest
never_above one done rest row used front low left [] f = absurd (omega (arith, f.count))
never_above one done rest row used front low left (r ∷ rs) f =
    let same = same_front one rest (bytes_of rs) row r used front f.fit.0 f.spelled in
    true≢false (sym (above_last done r rs f.ascend) ∙ ap (λ (s : Stored). is_above s.place done) (sym same.0) ∙ low)

is_less : (x y : Place) → is_lt (place_cmp x y) ≡ true → place_cmp x y ≡ Less
is_less x y e = of_lt (place_cmp x y) e
  where
    of_lt : (o : Ordering) → is_lt o ≡ true → o ≡ Less
    of_lt Less e = refl
    of_lt Equal e = cc
    of_lt Greater e = cc

ascends_more : (done : List Stored) (r : Stored) → AreAscending done → is_above r.place done ≡ true → AreAscending (done ++ r ∷ [])
ascends_more [] r a e = tt
ascends_more (x ∷ []) r a e = (is_less x.place r.place e, tt)
ascends_more (x ∷ y ∷ ys) r a e = (a.0, ascends_more (y ∷ ys) r a.1 e)

each_more : (done : List Stored) (r : Stored) → Each IsStored done → IsStored r → Each IsStored (done ++ r ∷ [])
each_more [] r e s = (s, tt)
each_more (x ∷ xs) r e s = (e.0, each_more xs r e.1 s)

-- what follows behind a row that was read
follow_more : OneForm IsChangeOf → (done : List Stored) (rest : List ℕ) (row : Stored) (used left : ℕ) → IsFront rest row used → ((tail : List Stored) → Follow left (done ++ row ∷ []) (drop used rest) tail → ⊥) → (rows : List Stored) → Follow (left + 1) done rest rows → ⊥
follow_more one done rest row used left front none [] f = absurd (omega (arith, f.count))
follow_more one done rest row used left front none (r ∷ rs) f =
    let same = same_front one rest (bytes_of rs) row r used front f.fit.0 f.spelled in
    none rs (record {
      count = omega (arith, f.count);
      spelled = same.1;
      ascend = subst AreAscending (sym (append_assoc done (row ∷ []) rs ∙ ap (λ (s : Stored). done ++ s ∷ rs) same.0)) f.ascend;
      fit = f.fit.1;
    })

take_both : (n m : ℕ) (xs : List ℕ) → take (n + m) xs ≡ take n xs ++ take m (drop n xs)
take_both n m xs = sym (take-append-drop n (take (n + m) xs)) ∙ ap (λ l. l ++ drop n (take (n + m) xs)) (take-take n (n + m) xs (omega arith)) ∙ ap (λ l. take n xs ++ l) (drop-take n m xs)

pub reading_starts : (count : ℕ) (body : List ℕ) → Reading count body [] 0 count
reading_starts count body = record { within = omega arith; counted = omega arith; spelled = refl; ascend = tt; fit = tt; exact = λ none all f. none all f }

-- the last row of some, by its place in the list
last_at : (place : Place) (rows : List Stored) (r : Stored) (n : ℕ) → length rows ≡ suc n → r ≡ get_or rows n r → is_above place rows ≡ is_lt (place_cmp r.place place)
last_at place [] r n len is = absurd (omega (arith, len))
last_at place (x ∷ []) r zero len is = ap (λ (s : Stored). is_lt (place_cmp s.place place)) (sym is)
last_at place (x ∷ []) r (suc n) len is = absurd (omega (arith, len))
last_at place (x ∷ y ∷ ys) r zero len is = absurd (omega (arith, len))
last_at place (x ∷ y ∷ ys) r (suc n) len is = last_at place (y ∷ ys) r n (omega (arith, len)) is

pub above_at : (place : Place) (rows : List Stored) (r : Stored) → 1 ≤ length rows → r ≡ get_or rows (length rows - 1) r → is_above place rows ≡ is_lt (place_cmp r.place place)
above_at place rows r some is = last_at place rows r (length rows - 1) (omega (arith, some)) is

pub reading_more : OneForm IsChangeOf → (count : ℕ) (body : List ℕ) (rows : List Stored) (at left : ℕ) (row : Stored) (used : ℕ) → Reading count body rows at left → 1 ≤ left → IsFront (drop at body) row used → is_above row.place rows ≡ true
    → Reading count body (rows ++ row ∷ []) (at + used) (left - 1)
reading_more one count body rows at left row used r some front above = record {
  within = omega (arith, r.within, front.within, length-drop at body);
  counted = omega (arith, r.counted, some, length-append rows (row ∷ []));
  spelled = take_both at used body ∙ (λ i. r.spelled i ++ front.spelled i) ∙ ap (λ b. bytes_of rows ++ b) (sym (append-nil (change_bytes (as_change row)))) ∙ sym (bytes_append rows (row ∷ []));
  ascend = ascends_more rows row r.ascend above;
  fit = each_more rows row r.fit front.fits;
  exact = λ none. r.exact (λ tail f. follow_more one rows (drop at body) row used (left - 1) front
      (λ t g. none t (subst (λ (b : List ℕ). Follow (left - 1) (rows ++ row ∷ []) b t) (drop-drop used at body) g)) tail (subst (λ (n : ℕ). Follow n rows (drop at body) tail) (one_more left some) f));
}
  where
    one_more : (left : ℕ) → 1 ≤ left → left ≡ left - 1 + 1
    one_more left some = omega (arith, some)

pub reading_stops : (count : ℕ) (body : List ℕ) (rows : List Stored) (at left : ℕ) → Reading count body rows at left → 1 ≤ left → GoesOnNever rows (drop at body) → (all : List Stored) → Follow count [] body all → ⊥
reading_stops count body rows at left r some never = r.exact (λ tail f. never (left - 1) tail (subst (λ (n : ℕ). Follow n rows (drop at body) tail) (one_more left some) f))
  where
    one_more : (left : ℕ) → 1 ≤ left → left ≡ left - 1 + 1
    one_more left some = omega (arith, some)

pub reading_too_long : (count : ℕ) (body : List ℕ) (rows : List Stored) (at : ℕ) → Reading count body rows at 0 → at < length body → (all : List Stored) → Follow count [] body all → ⊥
reading_too_long count body rows at r long = r.exact (λ tail f. left_over tail f)
  where
    left_over : (tail : List Stored) → Follow 0 rows (drop at body) tail → ⊥
    left_over [] f = omega (arith, ap length f.spelled, length-drop at body, long)
    left_over (t ∷ ts) f = omega (arith, f.count)

pub reading_ends : (count : ℕ) (body : List ℕ) (rows : List Stored) (at : ℕ) → Reading count body rows at 0 → length body ≤ at → Follow count [] body rows
reading_ends count body rows at r whole = record {
  count = omega (arith, r.counted);
  spelled = sym (take_all at body whole) ∙ r.spelled;
  ascend = r.ascend;
  fit = r.fit;
}
