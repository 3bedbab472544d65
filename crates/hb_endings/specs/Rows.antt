-- Rows with their places, as statements take them.
use Rattle.std.specs.Prelude.{◌≤◌, Bool, ◌&&◌, is_none, List, filter, Option, MatchOption, All, ⊤}
use Rattle.hb_types.specs.declared.change.Stored.{Stored}
use Rattle.hb_types.specs.declared.places.Place.{Place}
use Rattle.hb_types.specs.Places.{node_of_area, IsPlace}
use Rattle.hb_types.specs.Rows.{IsRow, values_in}
use Rattle.hb_model.specs.declared.condition.Pred.{Pred}
use Rattle.hb_model.specs.declared.table.Table.{Table}
use Rattle.hb_model.specs.Rows.{chooses, considers, truth}
use Rattle.hb_model.specs.Valid.{FitsAll}
use Rattle.hb_talk.specs.Plans.{Lying}

-- a place in an area of ds or of a back end
abbrev pub IsAtServer : Place → Type 0
IsAtServer p = node_of_area p.space.area ≤ 9

-- a row of a table that lies at a server
abbrev pub Suits : Table → Lying → Type 0
Suits t l = IsAtServer l.0 × FitsAll t.columns l.1

-- the same, where its place has bytes
abbrev pub IsFit : Table → Lying → Type 0
IsFit t l = IsPlace l.0 × Suits t l

-- rows of a table, as they were read
abbrev pub AreOf : Table → List Stored → Type 0
AreOf t rows = All (λ r. IsRow r.row × IsAtServer r.place × MatchOption (values_in r.row) ⊤ (FitsAll t.columns)) rows

-- those that a condition chooses
abbrev pub chosen_of : Table → Option Pred → List Lying → List Lying
chosen_of t pred ls = filter (λ l. chooses t pred l.1) ls

-- whether a row is considered, and the condition has no truth at it
abbrev pub is_unknown : Table → Option Pred → Lying → Bool
is_unknown t pred l = considers t pred l.1 && is_none (truth t pred l.1)
