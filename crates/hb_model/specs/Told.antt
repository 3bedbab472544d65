-- What rows of the dictionary tell to who reads them.
use Rattle.std.specs.Prelude.{ℕ, nat_abs, List, Option, find, filter_map, option_map, option_and_then}
use Rattle.std.specs.Str.{bytes_eq}
use Rattle.hb_types.specs.declared.change.Stored.{Stored}
use Rattle.hb_types.specs.declared.entry.Entry.{Entry}
use Rattle.hb_types.specs.Rows.{values_in}
use Rattle.hb_model.specs.declared.table.Table.{Table}
use Rattle.hb_model.specs.Dictionary.{table_in, entry_in}

-- a table's number, and the table without rows
abbrev pub Found : Type 0
Found = ℕ × Table

abbrev pub found_in : Stored → Option Found
found_in r = option_and_then (λ values. option_map (λ t. (nat_abs r.place.key, t)) (table_in values)) (values_in r.row)

-- the table of this name among rows of tables
abbrev pub table_among : List Stored → List ℕ → Option Found
table_among rows name = find (λ f. bytes_eq f.1.name name) (filter_map found_in rows)

-- the entry that a row tells, if there is a row; its areas are none of ds
abbrev pub entry_of : Option (List ℕ) → Option Entry
entry_of row = option_and_then entry_in (option_and_then values_in row)
