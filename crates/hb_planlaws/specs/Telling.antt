-- What the rows of ds tell of a state, to who scans the names, scans a table's entries or reads one.
use Rattle.std.specs.Prelude.{◌≡◌, ℕ, ◌≤◌, List, Option, Some, None, slice_get}
use Rattle.hb_types.specs.declared.entry.Entry.{Entry}
use Rattle.hb_types.specs.declared.places.Path.TheVariants as path
use Rattle.hb_types.specs.Lists.{IsIn}
use Rattle.hb_types.specs.Put.{lookup, rows_under}
use Rattle.hb_model.specs.declared.table.Table.{Table}
use Rattle.hb_model.specs.Answers.{rows_of}
use Rattle.hb_model.specs.Families.{Family}
use Rattle.hb_model.specs.Needs.{no_rows}
use Rattle.hb_model.specs.Needs as needs
use Rattle.hb_model.specs.Spots.{ds, dictionary_space, tables_space, entries_space, entry_place}
use Rattle.hb_model.specs.State.{State, Spread, table_named, spread_named}
use Rattle.hb_model.specs.System.{Sys}
use Rattle.hb_model.specs.Told.{Found, table_among, entry_of}
use Rattle.hb_talk.specs.Plans.{areas_of_routes}
use Rattle.hb_planlaws.specs.Planned.{most_back_ends}

-- the table of a name, as a scan of the tables' rows tells it
abbrev pub table_scanned : Family → List ℕ → Option Found
table_scanned family name = table_among (rows_under (path.Whole (dictionary_space tables_space)) (rows_of ds family)) name

-- a name tells its table's number and definition, or that there is none
pub record NamesTell (family : Family) (s : State) : Type 0 where
  pub there : (name : List ℕ) (t : Table) (p : Spread) → table_named s name ≡ Some t → spread_named s name ≡ Some p → table_scanned family name ≡ Some (p.number, no_rows t)
  pub nowhere : (name : List ℕ) → table_named s name ≡ None → table_scanned family name ≡ None
  pub lies : (name : List ℕ) (t : Table) → table_named s name ≡ Some t → (p : Spread) × (spread_named s name ≡ Some p)

-- a table's entries tell its routes, and the row at a group's place that group's entry
pub record EntriesTell (family : Family) (p : Spread) : Type 0 where
  pub routes : areas_of_routes (rows_under (path.Group (dictionary_space entries_space) p.number) (rows_of ds family)) ≡ needs.areas_of_routes p
  pub each : (group : ℕ) (e : Entry) → slice_get p.entries group ≡ Some e → entry_of (lookup (entry_place p.number group) (rows_of ds family)) ≡ Some e

-- the dictionary's rows of a system tell its state
abbrev pub DictionaryTells : Type 0
DictionaryTells =
    (back_ends : ℕ) (family : Family) (s : State) → back_ends ≤ most_back_ends → Sys back_ends family s
    → NamesTell family s × ((p : Spread) → IsIn p s.layout.spreads → EntriesTell family p)
