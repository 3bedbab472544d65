-- Rows stay rows where changes that have bytes are made.
use Rattle.std.proofs.Common.{ℕ, List, [], ◌∷◌, sym, ap, subst, Option, Some, None, if◌then◌else◌}
use Rattle.std.specs.Ordering.{is_lt}
use Rattle.std.specs.Prelude.{MatchOption, ⊤}
use Rattle.hb_types.specs.declared.change.Change.{Change}
use Rattle.hb_types.specs.declared.change.Stored.{Stored}
use Rattle.hb_types.specs.declared.places.Path.{Path}
use Rattle.hb_types.specs.declared.places.Place.{Place}
use Rattle.hb_types.specs.Lists.{Each}
use Rattle.hb_types.specs.Places.{is_under, place_cmp, same_place}
use Rattle.hb_types.specs.Put.{lookup, put, put_all, rows_under, with_row, with_stored, without_place}
use Rattle.hb_types.specs.Records.{IsChange}
use Rattle.hb_types.specs.Rows.{IsRow}
use Rattle.hb_types.proofs.PutLaws.{by_test}

abbrev pub HasRow : Stored → Type 0
HasRow r = IsRow r.row

rows_without : (place : Place) (rows : List Stored) → Each HasRow rows → Each HasRow (without_place place rows)
rows_without place [] each = tt
rows_without place (r ∷ rs) each =
    by_test (same_place place r.place)
    (λ t. subst (Each HasRow) (sym (ap (λ z. if z then without_place place rs else r ∷ without_place place rs) t)) (rows_without place rs each.1))
    (λ f. subst (Each HasRow) (sym (ap (λ z. if z then without_place place rs else r ∷ without_place place rs) f)) (each.0, rows_without place rs each.1))

rows_with : (s : Stored) (rows : List Stored) → HasRow s → Each HasRow rows → Each HasRow (with_stored s rows)
rows_with s [] is each = (is, tt)
rows_with s (r ∷ rs) is each =
    by_test (is_lt (place_cmp r.place s.place))
    (λ t. subst (Each HasRow) (sym (ap (λ z. if z then r ∷ with_stored s rs else s ∷ r ∷ rs) t)) (each.0, rows_with s rs is each.1))
    (λ f. subst (Each HasRow) (sym (ap (λ z. if z then r ∷ with_stored s rs else s ∷ r ∷ rs) f)) (is, each))

rows_changed : (place : Place) (row : Option (List ℕ)) (rows : List Stored) → IsChange (record { place = place; row = row }) → Each HasRow rows → Each HasRow (with_row place row rows)
rows_changed place None rows is each = each
rows_changed place (Some row) rows is each = rows_with (record { place = place; row = row }) rows is.1 each

pub rows_put_all : (rows : List Stored) (cs : List Change) → Each HasRow rows → Each IsChange cs → Each HasRow (put_all rows cs)
rows_put_all rows [] each changes = each
rows_put_all rows (c ∷ cs) each changes = rows_put_all (put rows c) cs (rows_changed c.place c.row (without_place c.place rows) changes.0 (rows_without c.place rows each)) changes.1

-- ---- what is read of them

pub row_found : (place : Place) (rows : List Stored) → Each HasRow rows → MatchOption (lookup place rows) ⊤ IsRow
row_found place [] each = tt
row_found place (r ∷ rs) each =
    by_test (same_place place r.place)
    (λ t. subst (λ (o : Option (List ℕ)). MatchOption o ⊤ IsRow) (sym (ap (λ z. if z then Some r.row else lookup place rs) t)) each.0)
    (λ f. subst (λ (o : Option (List ℕ)). MatchOption o ⊤ IsRow) (sym (ap (λ z. if z then Some r.row else lookup place rs) f)) (row_found place rs each.1))

pub rows_found : (p : Path) (rows : List Stored) → Each HasRow rows → Each HasRow (rows_under p rows)
rows_found p [] each = tt
rows_found p (r ∷ rs) each =
    by_test (is_under p r.place)
    (λ t. subst (Each HasRow) (sym (ap (λ z. if z then r ∷ rows_under p rs else rows_under p rs) t)) (each.0, rows_found p rs each.1))
    (λ f. subst (Each HasRow) (sym (ap (λ z. if z then r ∷ rows_under p rs else rows_under p rs) f)) (rows_found p rs each.1))
