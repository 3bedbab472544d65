use Rattle.std.proofs.Common.{arith}
use Rattle.hb_definerows.proofs.RowsPut.{member_at, puts_more}
use Rattle.hb_definerows.proofs.create_table.put_members.Goals as goal

pub loop-area-preserved : goal.loop-area-preserved
loop-area-preserved c = record {
  place = omega arith;
  puts =
      puts_more c.args.changes.now.items c.loop-area.changes.items c.put_member.new.changes.items (member_at c.args.table) 1 c.args.members.now c.loop-area.area-index c.loop-area.position
      _ c.loop-area-test.true (omega arith) c.loop-area.invariant.puts c.in_ok-put_member.ensures;
}
