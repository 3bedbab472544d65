use Rattle.std.proofs.Common.{ap, ◌∙◌, refl}
use Rattle.hb_locks.specs.Locks.{mode_of}
use Rattle.hb_locks.proofs.Ascending.{mode_more}
use Rattle.hb_locks.proofs.table.modes_in.Goals as goal

pub loop-path-preserved : goal.loop-path-preserved
loop-path-preserved c =
    mode_more c.args.table.now.entries c.loop-path.modes.entries c.keep_mode.new.modes.entries c.args.paths.now c.loop-path.path-index _ _ c.args.tx _
    c.loop-path-test.true refl (c.mode_of.ensures ∙ ap (mode_of c.args.tx) c.holders_of.ensures) c.loop-path.invariant c.in_ok-keep_mode.ensures
