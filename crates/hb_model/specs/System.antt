-- When rows of ds and of the back ends are those of a state: the dictionary's rows and the user rows, apart from disks.
use Rattle.std.specs.Prelude.{◌≡◌, ℕ, ◌+◌, ◌≤◌, List, length, Some}
use Rattle.hb_types.specs.declared.change.Stored.{Stored}
use Rattle.hb_types.specs.declared.places.Place.{Place}
use Rattle.hb_types.specs.Lists.{Ascends, Each, Has}
use Rattle.hb_types.specs.Places.{place_cmp}
use Rattle.hb_types.specs.Put.{lookup}
use Rattle.hb_model.specs.declared.table.Table.{Table}
use Rattle.hb_model.specs.Answers.{rows_of}
use Rattle.hb_model.specs.Dictionary.{dictionary}
use Rattle.hb_model.specs.Families.{Family}
use Rattle.hb_model.specs.Spots.{ds}
use Rattle.hb_model.specs.State.{State, Spread, spread_named, table_named}
use Rattle.hb_model.specs.TableRows.{TableRows}
use Rattle.hb_model.specs.Valid.{IsState}

-- rows stand by ascending place, one at each
abbrev pub AreAscending : List Stored → Type 0
AreAscending rows = Ascends (λ a b. place_cmp a.place b.place) rows

-- each row of a back end is of a table that is there
abbrev pub AreOfTables : Family → State → Type 0
AreOfTables family s =
    (node : ℕ) (p : Place) (row : List ℕ) → 2 ≤ node → lookup p (rows_of node family) ≡ Some row → Has (λ t. t.number ≡ p.space.table) s.layout.spreads

-- These rows of ds and so many back ends are those of a state: what stands at each place of ds is the dictionary's row,
-- and the back ends have just the rows of the tables.
pub record Sys (back_ends : ℕ) (family : Family) (s : State) : Type 0 where
  pub servers : length family ≡ back_ends + 1
  pub ascending : Each AreAscending family
  pub state : IsState back_ends s
  pub dictionary_rows : (p : Place) → lookup p (rows_of ds family) ≡ lookup p (dictionary s)
  pub of_tables : AreOfTables family s
  pub tables : (name : List ℕ) (t : Table) (spread : Spread) → table_named s name ≡ Some t → spread_named s name ≡ Some spread → TableRows family t spread
