use Rattle.std.proofs.Common.{◌≡◌, drop}
use Rattle.std.specs.List.{list_any}
use Rattle.hb_print.specs.Records.{wants_quotes}
use Rattle.hb_print.proofs.records.wants_quotes.Given as goal

abbrev pub invariant-loop-b : goal.invariant-loop-b
invariant-loop-b l = list_any wants_quotes (drop l.b-index l.field) ≡ list_any wants_quotes l.field
