use Rattle.std.proofs.Common.{◌≡◌, ◌++◌, drop}
use Rattle.hb_print.specs.Records.{doubled}
use Rattle.hb_print.proofs.records.put_doubled.Given as goal

abbrev pub invariant-loop-b : goal.invariant-loop-b
invariant-loop-b l = l.out.items ++ doubled (drop l.b-index l.field) ≡ l.fn.out.items ++ doubled l.field
