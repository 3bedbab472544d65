use Rattle.std.proofs.Common.{◌≡◌, ◌++◌, drop}
use Rattle.hb_print.specs.Records.{further_fields}
use Rattle.hb_print.proofs.records.put_further_fields.Given as goal

abbrev pub invariant-loop-value : goal.invariant-loop-value
invariant-loop-value l = l.out.items ++ further_fields (drop l.value-index l.row) ≡ l.fn.out.items ++ further_fields l.row
