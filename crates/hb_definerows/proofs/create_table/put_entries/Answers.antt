use Rattle.std.proofs.Common.{arith}
use Rattle.hb_definerows.proofs.Moved.{entry_at}
use Rattle.hb_definerows.proofs.RowsPut.{puts_more}
use Rattle.hb_definerows.proofs.create_table.put_entries.Goals as goal

pub loop-entry-preserved : goal.loop-entry-preserved
loop-entry-preserved c = record {
  place = omega arith;
  puts =
      puts_more c.args.changes.now.items c.loop-entry.changes.items c.put_entry.new.changes.items (entry_at c.args.table) 0 c.args.entries.now c.loop-entry.entry-index c.loop-entry.group
      _ c.loop-entry-test.true (omega arith) c.loop-entry.invariant.puts c.in_ok-put_entry.ensures;
}
