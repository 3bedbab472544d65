use Rattle.std.proofs.Common.{◌≡◌, take}
use Rattle.hb_types.specs.Groups.{map_from}
use Rattle.hb_definerows.specs.DefineRows.{Puts}
use Rattle.hb_definerows.proofs.Moved.{entry_at}
use Rattle.hb_definerows.proofs.create_table.put_entries.Given as goal

abbrev pub invariant-loop-entry : goal.invariant-loop-entry
invariant-loop-entry l = record {
  place : l.group ≡ l.entry-index;
  puts : Puts l.fn.changes.items l.changes.items (map_from (entry_at l.table) 0 (take l.entry-index l.entries));
}
