use Rattle.std.proofs.Common.{◌≡◌, ◌+◌, take}
use Rattle.hb_types.specs.Groups.{map_from}
use Rattle.hb_definerows.specs.DefineRows.{Puts}
use Rattle.hb_definerows.proofs.RowsPut.{member_at}
use Rattle.hb_definerows.proofs.create_table.put_members.Given as goal

abbrev pub invariant-loop-area : goal.invariant-loop-area
invariant-loop-area l = record {
  place : l.position ≡ l.area-index + 1;
  puts : Puts l.fn.changes.items l.changes.items (map_from (member_at l.table) 1 (take l.area-index l.members));
}
