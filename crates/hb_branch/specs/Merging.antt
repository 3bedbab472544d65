-- Rows before and behind a place.
use Rattle.std.specs.Prelude.{ℕ, if◌then◌else◌, List, [], ◌∷◌, Option, Some, None}
use Rattle.std.specs.Ordering.{is_lt}
use Rattle.hb_types.specs.declared.change.Change.{Change}
use Rattle.hb_types.specs.declared.change.Stored.{Stored}
use Rattle.hb_types.specs.declared.places.Place.{Place}
use Rattle.hb_types.specs.Places.{place_cmp, same_place}

-- the first rows that are below a place
abbrev pub rows_below : Place → List Stored → List Stored
rows_below p [] = []
rows_below p (r ∷ rs) = if is_lt (place_cmp r.place p) then r ∷ rows_below p rs else []

-- and those from there on
abbrev pub rows_from : Place → List Stored → List Stored
rows_from p [] = []
rows_from p (r ∷ rs) = if is_lt (place_cmp r.place p) then rows_from p rs else r ∷ rs

-- the rows but the first where it lies at a place
abbrev pub past : Place → List Stored → List Stored
past p [] = []
past p (r ∷ rs) = if same_place r.place p then rs else r ∷ rs

-- the row that a change puts at its place, if it has one
abbrev pub row_at : Place → Option (List ℕ) → List Stored
row_at p None = []
row_at p (Some row) = record { place = p; row = row } ∷ []
