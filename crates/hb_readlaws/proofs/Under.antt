-- The rows under a path, by what stands at each place there.
use Rattle.std.proofs.Common.{◌≡◌, true, false, List, [], ◌∷◌, refl, sym, ap, ◌∙◌, subst, cond, inl, inr}
use Rattle.std.specs.Prelude.{Some, None, filter}
use Rattle.std.specs.declared.cmp.Ordering.TheVariants.{Less}
use Rattle.std.proofs.lemmas.Bool.{false≢true}
use Rattle.hb_types.specs.declared.change.Stored.{Stored}
use Rattle.hb_types.specs.declared.places.Path.{Path}
use Rattle.hb_types.specs.declared.places.Place.{Place}
use Rattle.hb_types.specs.Places.{is_under, same_place, place_cmp}
use Rattle.hb_types.specs.Put.{lookup, rows_under}
use Rattle.hb_types.specs.Lists.{IsIn}
use Rattle.hb_types.proofs.Ascending.{in_Each, Ascends-first, Ascends-tail}
use Rattle.hb_types.proofs.PutLaws.{by_test}
use Rattle.hb_types.proofs.SamePlace.{same_place-eq}
use Rattle.hb_laws.specs.RowOrder.{AreAscending}
use Rattle.hb_laws.proofs.Places.{stored_total}
use Rattle.hb_laws.proofs.RowLaws.{rows_same, lookup_first, less_apart_back}
use Rattle.hb_loglaws.proofs.Members.{filter_ascends}

under : (p : Path) (x : Place) (rows : List Stored) → is_under p x ≡ true → lookup x (rows_under p rows) ≡ lookup x rows
under p x [] u = refl
under p x (r ∷ rs) u =
    by_test (is_under p r.place)
    (λ t. rw t (ap (λ z. cond (same_place x r.place) (Some r.row) z) (under p x rs u)))
    (λ f. rw f (under p x rs u ∙ sym (elsewhere f)))
  where
    elsewhere : is_under p r.place ≡ false → cond (same_place x r.place) (Some r.row) (lookup x rs) ≡ lookup x rs
    elsewhere f =
        by_test (same_place x r.place)
        (λ t. absurd (false≢true (sym f ∙ subst (λ z. is_under p z ≡ true) (same_place-eq x r.place t) u)))
        (λ n. rw n refl)

not_under : (p : Path) (x : Place) (rows : List Stored) → is_under p x ≡ false → lookup x (rows_under p rows) ≡ None
not_under p x [] n = refl
not_under p x (r ∷ rs) n =
    by_test (is_under p r.place)
    (λ t. rw t (elsewhere t ∙ not_under p x rs n))
    (λ f. rw f (not_under p x rs n))
  where
    elsewhere : is_under p r.place ≡ true → cond (same_place x r.place) (Some r.row) (lookup x (rows_under p rs)) ≡ lookup x (rows_under p rs)
    elsewhere t =
        by_test (same_place x r.place)
        (λ e. absurd (false≢true (sym n ∙ subst (λ z. is_under p z ≡ true) (sym (same_place-eq x r.place e)) t)))
        (λ f. rw f refl)

pub under_filter : (p : Path) (rows : List Stored) → rows_under p rows ≡ filter (λ r. is_under p r.place) rows
under_filter p [] = refl
under_filter p (r ∷ rs) = by_test (is_under p r.place) (λ t. rw t (ap (λ z. r ∷ z) (under_filter p rs))) (λ f. rw f (under_filter p rs))

under_ascends : (p : Path) (rows : List Stored) → AreAscending rows → AreAscending (rows_under p rows)
under_ascends p rows a =
    subst AreAscending (sym (under_filter p rows)) (filter_ascends (λ a b. place_cmp a.place b.place) stored_total (λ r. is_under p r.place) rows a)

-- rows that are alike at each place under a path have the same rows under it
pub under_same : (p : Path) (xs ys : List Stored) → AreAscending xs → AreAscending ys
    → ((x : Place) → is_under p x ≡ true → lookup x xs ≡ lookup x ys) → rows_under p xs ≡ rows_under p ys
under_same p xs ys a b same = rows_same (rows_under p xs) (rows_under p ys) (under_ascends p xs a) (under_ascends p ys b) at
  where
    at : (x : Place) → lookup x (rows_under p xs) ≡ lookup x (rows_under p ys)
    at x =
        by_test (is_under p x)
        (λ t. under p x xs t ∙ same x t ∙ sym (under p x ys t))
        (λ f. not_under p x xs f ∙ sym (not_under p x ys f))

-- what stands at the place of one of ascending rows is that row
pub lookup_member : (r : Stored) (rows : List Stored) → AreAscending rows → IsIn r rows → lookup r.place rows ≡ Some r.row
lookup_member r [] a i = absurd i
lookup_member r (q ∷ rs) a (inl e) = subst (λ z. lookup z.place (q ∷ rs) ≡ Some z.row) e (lookup_first q rs)
lookup_member r (q ∷ rs) a (inr i) =
    let less : place_cmp q.place r.place ≡ Less = in_Each (λ z. place_cmp q.place z.place ≡ Less) r rs i (Ascends-first (λ a b. place_cmp a.place b.place) stored_total q rs a) in
    let f : same_place r.place q.place ≡ false = less_apart_back q.place r.place less in
    rw f (lookup_member r rs (Ascends-tail (λ a b. place_cmp a.place b.place) stored_total q rs a) i)
