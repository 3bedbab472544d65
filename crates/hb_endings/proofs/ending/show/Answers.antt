use Rattle.hb_endings.proofs.FitRows.{all_narrow}
use Rattle.hb_endings.proofs.ending.show.Goals as goal

pub shown-requires : goal.shown-requires
shown-requires c = rw (c.as_slice.ensures.value, c.in_ok-rows.ensures) (all_narrow c.args.table.now _ c.requires)
