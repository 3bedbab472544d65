use Rattle.std.proofs.Common.{arith}
use Rattle.hb_definerows.proofs.Moved.{puts_if_moving}
use Rattle.hb_definerows.proofs.add_area.put_moving.Goals as goal

pub loop-entry-preserved : goal.loop-entry-preserved
loop-entry-preserved c = record {
  place = omega arith;
  puts =
      puts_if_moving c.args.changes.now.items c.loop-entry.changes.items c.put_if_moving.new.changes.items c.args.table c.args.entries.now c.loop-entry.entry-index c.loop-entry.group
      _ c.loop-entry-test.true c.loop-entry.invariant.place c.put_if_moving.ensures.small c.requires.marked c.loop-entry.invariant.puts (c.in_ok-put_if_moving.ensures.puts);
}
