use Rattle.std.proofs.Common.{◌≡◌, map}
use Rattle.std.specs.List.{range_with_len}
use Rattle.hb_definerows.proofs.RowsPut.{first_at}
use Rattle.hb_definerows.proofs.create_table.first_entries.Given as goal

abbrev pub invariant-loop-group : goal.invariant-loop-group
invariant-loop-group l = l.entries.items ≡ map (first_at l.members) (range_with_len 0 l.group)
