-- Where the rows of a statement come from, whatever its answers are: what it shows, it was answered; what it writes, it made of that.
use Rattle.std.specs.Prelude.{◌≡◌, ℕ, ◌≤◌, Bool, true, false, IsTrue, List, [], map, Option, Some, None, ⊤, slice_get}
use Rattle.hb_types.specs.declared.change.Stored.{Stored}
use Rattle.hb_types.specs.declared.places.Place.{Place}
use Rattle.hb_types.specs.declared.request.Request.{Request}
use Rattle.hb_types.specs.declared.request.Request.TheVariants as request
use Rattle.hb_types.specs.declared.trail.Call.{Call}
use Rattle.hb_types.specs.declared.value.Value.{Value}
use Rattle.hb_types.specs.Lists.{Each, EachBehind, Has}
use Rattle.hb_types.specs.Rows.{values_in}
use Rattle.hb_model.specs.declared.reply.Reply.{Reply}
use Rattle.hb_model.specs.declared.reply.Reply.TheVariants as reply
use Rattle.hb_model.specs.declared.statement.Statement.{Statement}
use Rattle.hb_model.specs.declared.statement.Statement.TheVariants as statement
use Rattle.hb_model.specs.declared.statement.What.{What}
use Rattle.hb_model.specs.declared.statement.What.TheVariants as what
use Rattle.hb_model.specs.declared.table.Table.{Table}
use Rattle.hb_model.specs.Answers.{given}
use Rattle.hb_model.specs.Rows.{assigned}

-- the values at these positions
abbrev pub IsSelection : List Value → List ℕ → List Value → Type 0
IsSelection row positions shown = map (slice_get row) positions ≡ map Some shown

-- a row of a back end
abbrev pub IsUsers : Stored → Type 0
IsUsers r = 1 ≤ r.place.space.area

-- a row that is shown is a selection, by positions, of the values of a user row that was answered
abbrev pub IsShownOf : List Stored → List Value → Type 0
IsShownOf rows shown =
    Has (λ r. IsUsers r × ((row : List Value) × (positions : List ℕ) × (values_in r.row ≡ Some row) × IsSelection row positions shown)) rows

-- whether a SELECT shows rows of its table, and no count or sum
abbrev pub shows_rows : What → Bool
shows_rows what.All = true
shows_rows (what.Names names) = true
shows_rows _ = false

abbrev pub ShowsGiven : Statement → Reply → List Stored → Type 0
ShowsGiven (statement.Select w table pred) (reply.Rows rows) given = IsTrue (shows_rows w) → Each (IsShownOf given) rows
ShowsGiven _ _ given = ⊤

-- the values of a user row that is written are the INSERT's, or made by the assignments of those of a row that was answered at its place
abbrev pub IsMadeOf : Statement → List Stored → Place → List ℕ → Type 0
IsMadeOf (statement.Insert table values) given place row = values_in row ≡ Some values
IsMadeOf (statement.Update table sets pred) given place row =
    Has (λ r. (t : Table) × (old : List Value) × (r.place ≡ place) × (values_in r.row ≡ Some old) × (values_in row ≡ Some (assigned t sets old))) given
IsMadeOf _ given place row = ⊥

abbrev pub RowMade : Statement → List Stored → Place → Option (List ℕ) → Type 0
RowMade st given place None = ⊤
RowMade st given place (Some row) = 1 ≤ place.space.area → IsMadeOf st given place row

-- a Write that may have been done, by the rows that were answered before it
abbrev pub WriteMade : Statement → List Stored → Request → Type 0
WriteMade st given (request.Write tx change) = RowMade st given change.place change.row
WriteMade st given _ = ⊤

pub record Sourced (st : Statement) (calls : List Call) (r : Reply) : Type 0 where
  pub shown : ShowsGiven st r (given calls)
  pub written : EachBehind (λ before c. WriteMade st (given before) c.request) [] calls
