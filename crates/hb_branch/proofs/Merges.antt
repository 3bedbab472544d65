-- A change among rows by ascending place: those below it, its row, those behind it.
use Rattle.std.proofs.Common.{◌≡◌, ℕ, zero, suc, ◌+◌, ◌<◌, Bool, true, false, refl, sym, ◌∙◌, ap, subst, List, [], ◌∷◌, ◌++◌, append_assoc, append-nil, add-one, drop-cons, length, get_or, drop, take, Option, Some, None, if◌then◌else◌, arith}
use Rattle.std.specs.Ordering.{is_lt, ordering_reverse}
use Rattle.std.specs.declared.cmp.Ordering.{Ordering}
use Rattle.std.specs.declared.cmp.Ordering.TheVariants.{Less, Equal, Greater}
use Rattle.std.proofs.lemmas.Bool.{true≢false, false≢true}
use Rattle.hb_types.specs.declared.change.Change.{Change}
use Rattle.hb_types.specs.declared.change.Stored.{Stored}
use Rattle.hb_types.specs.declared.places.Path.{Path}
use Rattle.hb_types.specs.declared.places.Place.{Place}
use Rattle.hb_types.specs.Lists.{Ascends, Each}
use Rattle.hb_types.specs.Places.{place_cmp, same_place, is_under}
use Rattle.hb_types.specs.Put.{put, put_all, with_row, with_stored, without_place}
use Rattle.hb_types.proofs.Ascending.{Ascends-first, Ascends-tail, Each-of}
use Rattle.hb_types.proofs.PutLaws.{by_test}
use Rattle.hb_types.proofs.SamePlace.{same_place-eq, same_place-refl}
use Rattle.hb_laws.specs.RowOrder.{AreAscending}
use Rattle.hb_laws.proofs.Places.{place_total, stored_total}
use Rattle.hb_laws.proofs.RowLaws.{less_apart, less_apart_back}
use Rattle.hb_branch.specs.Overlays.{change_cmp, changes_under}
use Rattle.hb_branch.specs.Merging.{rows_below, rows_from, past, row_at}
use Rattle.hb_branch.proofs.Ranks.{change_total, is_less, not_less, same_place-sym}

abbrev stored_cmp : Stored → Stored → Ordering
stored_cmp a b = place_cmp a.place b.place

-- ---- a row below a change stays in front

with_row-first : (r : Stored) (p : Place) (o : Option (List ℕ)) (rows : List Stored) → place_cmp r.place p ≡ Less → with_row p o (r ∷ rows) ≡ r ∷ with_row p o rows
with_row-first r p None rows h = refl
with_row-first r p (Some row) rows h = rw h refl

put-first : (r : Stored) (rows : List Stored) (c : Change) → place_cmp r.place c.place ≡ Less → put (r ∷ rows) c ≡ r ∷ put rows c
put-first r rows c h = rw (less_apart_back r.place c.place h) (with_row-first r c.place c.row (without_place c.place rows) h)

put_all-first : (r : Stored) (rows : List Stored) (cs : List Change) → Each (λ c. place_cmp r.place c.place ≡ Less) cs → put_all (r ∷ rows) cs ≡ r ∷ put_all rows cs
put_all-first r rows [] e = refl
put_all-first r rows (c ∷ cs) e = ap (λ z. put_all z cs) (put-first r rows c e.0) ∙ put_all-first r (put rows c) cs e.1

put_all-front : (front rows : List Stored) (cs : List Change) → Each (λ r. Each (λ c. place_cmp r.place c.place ≡ Less) cs) front → put_all (front ++ rows) cs ≡ front ++ put_all rows cs
put_all-front [] rows cs e = refl
put_all-front (r ∷ front) rows cs e = put_all-first r (front ++ rows) cs e.0 ∙ ap (λ z. r ∷ z) (put_all-front front rows cs e.1)

-- ---- one change

without-behind : (p : Place) (rows : List Stored) → Each (λ r. place_cmp p r.place ≡ Less) rows → without_place p rows ≡ rows
without-behind p [] e = refl
without-behind p (r ∷ rs) e = rw (less_apart p r.place e.0) (ap (λ t. r ∷ t) (without-behind p rs e.1))

less_back : (p q : Place) → place_cmp p q ≡ Less → is_lt (place_cmp q p) ≡ false
less_back p q h = ap is_lt (place_total.antisymm q p ∙ ap ordering_reverse h)

with_row-behind : (p : Place) (o : Option (List ℕ)) (rows : List Stored) → Each (λ r. place_cmp p r.place ≡ Less) rows → with_row p o rows ≡ row_at p o ++ rows
with_row-behind p None rows e = refl
with_row-behind p (Some row) [] e = refl
with_row-behind p (Some row) (r ∷ rs) e = rw (less_back p r.place e.0) refl

after_first : (r : Stored) (rs : List Stored) → AreAscending (r ∷ rs) → (p : Place) → p ≡ r.place → Each (λ s. place_cmp p s.place ≡ Less) rs
after_first r rs a p e = rw e (Ascends-first stored_cmp stored_total r rs a)

behind : (p : Place) (r : Stored) (rs : List Stored) → AreAscending (r ∷ rs) → place_cmp p r.place ≡ Less → Each (λ s. place_cmp p s.place ≡ Less) rs
behind p r rs a h = Each-of (λ s. stored_cmp r s ≡ Less) (λ s. place_cmp p s.place ≡ Less) rs (λ s k. place_total.trans p r.place s.place h k) (Ascends-first stored_cmp stored_total r rs a)

pub put_is : (rows : List Stored) (c : Change) → AreAscending rows → put rows c ≡ rows_below c.place rows ++ row_at c.place c.row ++ past c.place (rows_from c.place rows)
put_is [] c a = with_row-behind c.place c.row [] tt
put_is (r ∷ rs) c a =
    by_test (is_lt (place_cmp r.place c.place))
    (λ t. put-first r rs c (is_less (place_cmp r.place c.place) t) ∙ (rw t (ap (λ z. r ∷ z) (put_is rs c (Ascends-tail stored_cmp stored_total r rs a)))))
    (λ f. by_test (same_place r.place c.place)
    (λ s. let e : c.place ≡ r.place = sym (same_place-eq r.place c.place s) in
    let above = after_first r rs a c.place e in
    rw (f, s, same_place-sym c.place r.place, s, without-behind c.place rs above) (with_row-behind c.place c.row rs above))
    (λ n. let h : place_cmp c.place r.place ≡ Less = not_less r.place c.place f n in
    rw (f, n, same_place-sym c.place r.place, n, without-behind c.place rs (behind c.place r rs a h)) (with_row-behind c.place c.row (r ∷ rs) (h, behind c.place r rs a h))))

-- ---- one change and those behind it

below_each : (p : Place) (rows : List Stored) → Each (λ r. place_cmp r.place p ≡ Less) (rows_below p rows)
below_each p [] = tt
below_each p (r ∷ rs) = by_test (is_lt (place_cmp r.place p)) (λ t. rw t (is_less (place_cmp r.place p) t, below_each p rs)) (λ f. rw f tt)

all_below : (p : Place) (cs : List Change) (rows : List Stored) → Each (λ c. place_cmp p c.place ≡ Less) cs → Each (λ r. place_cmp r.place p ≡ Less) rows
    → Each (λ r. Each (λ c. place_cmp r.place c.place ≡ Less) cs) rows
all_below p cs rows above e =
    Each-of (λ r. place_cmp r.place p ≡ Less) (λ r. Each (λ c. place_cmp r.place c.place ≡ Less) cs) rows
    (λ r h. Each-of (λ c. place_cmp p c.place ≡ Less) (λ c. place_cmp r.place c.place ≡ Less) cs (λ c k. place_total.trans r.place p c.place h k) above) e

row_below : (p : Place) (o : Option (List ℕ)) (cs : List Change) → Each (λ c. place_cmp p c.place ≡ Less) cs → Each (λ r. Each (λ c. place_cmp r.place c.place ≡ Less) cs) (row_at p o)
row_below p None cs e = tt
row_below p (Some row) cs e = (e, tt)

pub one_more : (rows : List Stored) (c : Change) (cs : List Change) → AreAscending rows → Each (λ d. place_cmp c.place d.place ≡ Less) cs
    → put_all rows (c ∷ cs) ≡ rows_below c.place rows ++ row_at c.place c.row ++ put_all (past c.place (rows_from c.place rows)) cs
one_more rows c cs a above =
    ap (λ z. put_all z cs) (put_is rows c a ∙ append_assoc (rows_below c.place rows) (row_at c.place c.row) (past c.place (rows_from c.place rows)))
    ∙ put_all-front (rows_below c.place rows) (row_at c.place c.row ++ past c.place (rows_from c.place rows)) cs (all_below c.place cs (rows_below c.place rows) above (below_each c.place rows))
    ∙ ap (λ z. rows_below c.place rows ++ z) (put_all-front (row_at c.place c.row) (past c.place (rows_from c.place rows)) cs (row_below c.place c.row cs above))
    ∙ sym (append_assoc (rows_below c.place rows) (row_at c.place c.row) (put_all (past c.place (rows_from c.place rows)) cs))

-- ---- what is left ascends

pub from_ascends : (p : Place) (rows : List Stored) → AreAscending rows → AreAscending (rows_from p rows)
from_ascends p [] a = tt
from_ascends p (r ∷ rs) a = by_test (is_lt (place_cmp r.place p)) (λ t. rw t (from_ascends p rs (Ascends-tail stored_cmp stored_total r rs a))) (λ f. rw f a)

pub past_ascends : (p : Place) (rows : List Stored) → AreAscending rows → AreAscending (past p rows)
past_ascends p [] a = tt
past_ascends p (r ∷ rs) a = by_test (same_place r.place p) (λ t. rw t (Ascends-tail stored_cmp stored_total r rs a)) (λ f. rw f a)

each_under : (P : Change → Type 0) (p : Path) (cs : List Change) → Each P cs → Each P (changes_under p cs)
each_under P p [] e = tt
each_under P p (c ∷ cs) e = by_test (is_under p c.place) (λ t. rw t (e.0, each_under P p cs e.1)) (λ f. rw f (each_under P p cs e.1))

pub above_under : (p : Path) (c : Change) (cs : List Change) → Ascends change_cmp (c ∷ cs) → Each (λ d. place_cmp c.place d.place ≡ Less) (changes_under p cs)
above_under p c cs a = each_under (λ d. place_cmp c.place d.place ≡ Less) p cs (Ascends-first change_cmp change_total c cs a)

-- ---- a step of the loop

pub Ascends-drop : (i : ℕ) (cs : List Change) → Ascends change_cmp cs → Ascends change_cmp (drop i cs)
Ascends-drop zero cs a = a
Ascends-drop (suc i) [] a = tt
Ascends-drop (suc i) (c ∷ cs) a = Ascends-drop i cs (Ascends-tail change_cmp change_total c cs a)

next : (changes : List Change) (i : ℕ) (c : Change) → i < length changes → c ≡ get_or changes i c → drop i changes ≡ c ∷ drop (i + 1) changes
next changes i c l e = drop-cons changes i c l ∙ ap (λ z. z ∷ drop (suc i) changes) (sym e) ∙ ap (λ (k : ℕ). c ∷ drop k changes) (sym (add-one i))

pub merge_step : (p : Path) (changes : List Change) (i : ℕ) (c : Change) (found rest target found1 found2 rest1 rest2 : List Stored) → Ascends change_cmp changes → i < length changes → c ≡ get_or changes i c
    → is_under p c.place ≡ true → (found ++ put_all rest (changes_under p (drop i changes)) ≡ target) × AreAscending rest
    → rest1 ≡ rows_from c.place rest → found1 ≡ found ++ rows_below c.place rest → rest2 ≡ past c.place rest1 → found2 ≡ found1 ++ row_at c.place c.row
    → (found2 ++ put_all rest2 (changes_under p (drop (i + 1) changes)) ≡ target) × AreAscending rest2
merge_step p changes i c found rest target found1 found2 rest1 rest2 up l at under inv r1 f1 r2 f2 =
    let cs : List Change = drop (i + 1) changes in
    let here : drop i changes ≡ c ∷ cs = next changes i c l at in
    let all : Ascends change_cmp (c ∷ cs) = subst (λ (xs : List Change). Ascends change_cmp xs) here (Ascends-drop i changes up) in
    let rest_is : rest2 ≡ past c.place (rows_from c.place rest) = r2 ∙ ap (past c.place) r1 in
    let tail : List Stored = put_all (past c.place (rows_from c.place rest)) (changes_under p cs) in
    let now : found ++ put_all rest (changes_under p (drop i changes)) ≡ found ++ (rows_below c.place rest ++ row_at c.place c.row ++ tail) =
    ap (λ (xs : List Change). found ++ put_all rest (changes_under p xs)) here
    ∙ ap (λ b. found ++ put_all rest (if b then c ∷ changes_under p cs else changes_under p cs)) under
    ∙ ap (λ (xs : List Stored). found ++ xs) (one_more rest c (changes_under p cs) inv.1 (above_under p c cs all)) in (
      ap (λ (xs : List Stored). xs ++ put_all rest2 (changes_under p cs)) (f2 ∙ ap (λ (xs : List Stored). xs ++ row_at c.place c.row) f1)
          ∙ ap (λ (xs : List Stored). ((found ++ rows_below c.place rest) ++ row_at c.place c.row) ++ put_all xs (changes_under p cs)) rest_is
          ∙ grouped found (rows_below c.place rest) (row_at c.place c.row) tail ∙ sym now ∙ inv.0,
      subst AreAscending (sym rest_is) (past_ascends c.place (rows_from c.place rest) (from_ascends c.place rest inv.1)),
    )
  where
    grouped : (a b c d : List Stored) → ((a ++ b) ++ c) ++ d ≡ a ++ (b ++ c ++ d)
    grouped a b c d = ap (λ z. z ++ d) (append_assoc a b c) ∙ append_assoc a (b ++ c) d

pub merge_skip : (p : Path) (changes : List Change) (i : ℕ) (c : Change) (found rest target : List Stored) → i < length changes → c ≡ get_or changes i c
    → is_under p c.place ≡ false → found ++ put_all rest (changes_under p (drop i changes)) ≡ target → found ++ put_all rest (changes_under p (drop (i + 1) changes)) ≡ target
merge_skip p changes i c found rest target l at other inv =
    sym (ap (λ (xs : List Change). found ++ put_all rest (changes_under p xs)) (next changes i c l at)
    ∙ ap (λ b. found ++ put_all rest (if b then c ∷ changes_under p (drop (i + 1) changes) else changes_under p (drop (i + 1) changes))) other) ∙ inv
