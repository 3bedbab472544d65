-- Rows under a path, and what a transaction's changes make of them.
use Rattle.std.proofs.Common.{◌≡◌, ℕ, Bool, true, false, refl, sym, ◌∙◌, ap, List, [], ◌∷◌, ◌++◌, Option, Some, None, if◌then◌else◌}
use Rattle.std.specs.declared.cmp.Ordering.{Ordering}
use Rattle.std.specs.declared.cmp.Ordering.TheVariants.{Less}
use Rattle.hb_types.specs.declared.change.Change.{Change}
use Rattle.hb_types.specs.declared.change.Stored.{Stored}
use Rattle.hb_types.specs.declared.places.Path.{Path}
use Rattle.hb_types.specs.declared.places.Place.{Place}
use Rattle.hb_types.specs.Lists.{Ascends, Each}
use Rattle.hb_types.specs.Places.{place_cmp, same_place, is_under}
use Rattle.hb_types.specs.Put.{put, put_all, lookup, last_at, normal, rows_under}
use Rattle.hb_types.proofs.Ascending.{Ascends-first, Ascends-tail}
use Rattle.hb_types.proofs.PutLaws.{by_test, lookup-put_all}
use Rattle.hb_types.proofs.SamePlace.{same_place-eq}
use Rattle.hb_laws.specs.RowOrder.{AreAscending}
use Rattle.hb_laws.proofs.Places.{stored_total}
use Rattle.hb_laws.proofs.RowLaws.{rows_same, put_ascends}
use Rattle.hb_branch.specs.Overlays.{changes_under}
use Rattle.hb_branch.proofs.Changes.{last_at-normal}

abbrev stored_cmp : Stored → Stored → Ordering
stored_cmp a b = place_cmp a.place b.place

pub put_all_ascends : (rows : List Stored) (cs : List Change) → AreAscending rows → AreAscending (put_all rows cs)
put_all_ascends rows [] a = a
put_all_ascends rows (c ∷ cs) a = put_all_ascends (put rows c) cs (put_ascends rows c a)

cons_ascends : (r : Stored) (rs : List Stored) → Each (λ s. stored_cmp r s ≡ Less) rs → AreAscending rs → AreAscending (r ∷ rs)
cons_ascends r [] e a = tt
cons_ascends r (s ∷ ss) e a = (e.0, a)

each_under : (P : Stored → Type 0) (p : Path) (rows : List Stored) → Each P rows → Each P (rows_under p rows)
each_under P p [] e = tt
each_under P p (r ∷ rs) e = by_test (is_under p r.place) (λ t. rw t (e.0, each_under P p rs e.1)) (λ f. rw f (each_under P p rs e.1))

pub under_ascends : (p : Path) (rows : List Stored) → AreAscending rows → AreAscending (rows_under p rows)
under_ascends p [] a = tt
under_ascends p (r ∷ rs) a =
    let tail = under_ascends p rs (Ascends-tail stored_cmp stored_total r rs a) in
    by_test (is_under p r.place)
    (λ t. rw t (cons_ascends r (rows_under p rs) (each_under (λ s. stored_cmp r s ≡ Less) p rs (Ascends-first stored_cmp stored_total r rs a)) tail))
    (λ f. rw f tail)

-- a row in front
lookup_first : (x : Place) (r : Stored) (rs : List Stored) → same_place x r.place ≡ true → lookup x (r ∷ rs) ≡ Some r.row
lookup_first x r rs s = ap (λ b. if b then Some r.row else lookup x rs) s

lookup_skip : (x : Place) (r : Stored) (rs : List Stored) → same_place x r.place ≡ false → lookup x (r ∷ rs) ≡ lookup x rs
lookup_skip x r rs n = ap (λ b. if b then Some r.row else lookup x rs) n

under_in : (p : Path) (r : Stored) (rs : List Stored) → is_under p r.place ≡ true → rows_under p (r ∷ rs) ≡ r ∷ rows_under p rs
under_in p r rs t = ap (λ b. if b then r ∷ rows_under p rs else rows_under p rs) t

under_out : (p : Path) (r : Stored) (rs : List Stored) → is_under p r.place ≡ false → rows_under p (r ∷ rs) ≡ rows_under p rs
under_out p r rs f = ap (λ b. if b then r ∷ rows_under p rs else rows_under p rs) f

abbrev If : Bool → Option (List ℕ) → Option (List ℕ) → Option (List ℕ)
If b x y = if b then x else y

pub lookup-under : (x : Place) (p : Path) (rows : List Stored) → lookup x (rows_under p rows) ≡ If (is_under p x) (lookup x rows) None
lookup-under x p [] = by_test (is_under p x) (λ t. rw t refl) (λ f. rw f refl)
lookup-under x p (r ∷ rs) =
    by_test (same_place x r.place)
    (λ s. let e : is_under p x ≡ is_under p r.place = ap (is_under p) (same_place-eq x r.place s) in
    by_test (is_under p r.place)
    (λ t. ap (lookup x) (under_in p r rs t) ∙ lookup_first x r (rows_under p rs) s ∙ sym (ap (λ b. If b (lookup x (r ∷ rs)) None) (e ∙ t) ∙ lookup_first x r rs s))
    (λ f. ap (lookup x) (under_out p r rs f) ∙ lookup-under x p rs ∙ ap (λ b. If b (lookup x rs) None) (e ∙ f) ∙ sym (ap (λ b. If b (lookup x (r ∷ rs)) None) (e ∙ f))))
    (λ n. let rest : If (is_under p x) (lookup x rs) None ≡ If (is_under p x) (lookup x (r ∷ rs)) None = ap (λ z. If (is_under p x) z None) (sym (lookup_skip x r rs n)) in
    by_test (is_under p r.place)
    (λ t. ap (lookup x) (under_in p r rs t) ∙ lookup_skip x r (rows_under p rs) n ∙ lookup-under x p rs ∙ rest)
    (λ f. ap (lookup x) (under_out p r rs f) ∙ lookup-under x p rs ∙ rest))

changes_in : (p : Path) (c : Change) (cs : List Change) → is_under p c.place ≡ true → changes_under p (c ∷ cs) ≡ c ∷ changes_under p cs
changes_in p c cs t = ap (λ b. if b then c ∷ changes_under p cs else changes_under p cs) t

changes_out : (p : Path) (c : Change) (cs : List Change) → is_under p c.place ≡ false → changes_under p (c ∷ cs) ≡ changes_under p cs
changes_out p c cs f = ap (λ b. if b then c ∷ changes_under p cs else changes_under p cs) f

last_first : (x : Place) (c : Change) (cs : List Change) (old : Option (List ℕ)) (b : Bool) → same_place x c.place ≡ b → last_at x (c ∷ cs) old ≡ last_at x cs (If b c.row old)
last_first x c cs old b e = ap (λ z. last_at x cs (If z c.row old)) e

last_at-under : (x : Place) (p : Path) (cs : List Change) (old : Option (List ℕ)) → last_at x (changes_under p cs) old ≡ If (is_under p x) (last_at x cs old) old
last_at-under x p [] old = by_test (is_under p x) (λ t. rw t refl) (λ f. rw f refl)
last_at-under x p (c ∷ cs) old =
    by_test (same_place x c.place)
    (λ s. let e : is_under p x ≡ is_under p c.place = ap (is_under p) (same_place-eq x c.place s) in
    by_test (is_under p c.place)
    (λ t. ap (λ l. last_at x l old) (changes_in p c cs t) ∙ last_first x c (changes_under p cs) old true s ∙ last_at-under x p cs c.row
    ∙ ap (λ b. If b (last_at x cs c.row) c.row) (e ∙ t) ∙ sym (ap (λ b. If b (last_at x (c ∷ cs) old) old) (e ∙ t) ∙ last_first x c cs old true s))
    (λ f. ap (λ l. last_at x l old) (changes_out p c cs f) ∙ last_at-under x p cs old
    ∙ ap (λ b. If b (last_at x cs old) old) (e ∙ f) ∙ sym (ap (λ b. If b (last_at x (c ∷ cs) old) old) (e ∙ f))))
    (λ n. let rest : If (is_under p x) (last_at x cs old) old ≡ If (is_under p x) (last_at x (c ∷ cs) old) old = ap (λ z. If (is_under p x) z old) (sym (last_first x c cs old false n)) in
    by_test (is_under p c.place)
    (λ t. ap (λ l. last_at x l old) (changes_in p c cs t) ∙ last_first x c (changes_under p cs) old false n ∙ last_at-under x p cs old ∙ rest)
    (λ f. ap (λ l. last_at x l old) (changes_out p c cs f) ∙ last_at-under x p cs old ∙ rest))

-- a path's rows with the changes under it are those of all rows with all writes
pub scan_is : (p : Path) (rows : List Stored) (own : List Change) → AreAscending rows → put_all (rows_under p rows) (changes_under p (normal own)) ≡ rows_under p (put_all rows own)
scan_is p rows own a =
    rows_same (put_all (rows_under p rows) (changes_under p (normal own))) (rows_under p (put_all rows own))
    (put_all_ascends (rows_under p rows) (changes_under p (normal own)) (under_ascends p rows a))
    (under_ascends p (put_all rows own) (put_all_ascends rows own a)) each
  where
    each : (x : Place) → lookup x (put_all (rows_under p rows) (changes_under p (normal own))) ≡ lookup x (rows_under p (put_all rows own))
    each x =
        lookup-put_all x (rows_under p rows) (changes_under p (normal own)) ∙ last_at-under x p (normal own) (lookup x (rows_under p rows))
        ∙ by (is_under p x) refl ∙ sym (lookup-under x p (put_all rows own))
      where
        by : (b : Bool) → is_under p x ≡ b → If (is_under p x) (last_at x (normal own) (lookup x (rows_under p rows))) (lookup x (rows_under p rows)) ≡ If (is_under p x) (lookup x (put_all rows own)) None
        by true t =
            let l : lookup x (rows_under p rows) ≡ lookup x rows = lookup-under x p rows ∙ ap (λ b. If b (lookup x rows) None) t in
            rw t (last_at-normal x own (lookup x (rows_under p rows)) ∙ ap (last_at x own) l ∙ sym (lookup-put_all x rows own))
        by false f =
            let l : lookup x (rows_under p rows) ≡ None = lookup-under x p rows ∙ ap (λ b. If b (lookup x rows) None) f in
            rw f l
