use Rattle.std.proofs.Common.{◌≡◌, ◌++◌, take}
use Rattle.hb_dict.specs.DictionaryRows.{column_values}
use Rattle.hb_dict.proofs.columns.put_columns.Given as goal

abbrev pub invariant-loop-column : goal.invariant-loop-column
invariant-loop-column l = l.values ≡ l.initial.values ++ column_values (take l.column-index l.columns)
