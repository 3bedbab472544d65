use Rattle.hb_endings.proofs.Steps.{kept_more}
use Rattle.hb_endings.proofs.fitting.all_kept.Goals as goal

pub loop-l-preserved : goal.loop-l-preserved
loop-l-preserved c = kept_more c.args.table.now c.loop-l.yielded c.loop-l.kept.items c.keep.new.kept.items c.in-Some.l c.loop-l.invariant c.in_ok-keep.ensures
