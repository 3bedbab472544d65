use Rattle.std.proofs.Common.{refl}
use Rattle.hb_locks.proofs.Sound.{leave_more}
use Rattle.hb_locks.proofs.table.leave_all.Goals as goal

pub loop-path-preserved : goal.loop-path-preserved
loop-path-preserved c =
    leave_more c.args.table.now.entries c.loop-path.table.entries c.leave.new.table.entries c.args.paths.now c.loop-path.path-index _ _ c.args.tx
    c.loop-path-test.true refl c.loop-path.invariant c.leave.ensures
