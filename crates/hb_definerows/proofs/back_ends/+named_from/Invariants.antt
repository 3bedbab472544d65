use Rattle.hb_definerows.proofs.back_ends.+named_from.Given as goal

abbrev pub decreases-named_from : goal.decreases-named_from
decreases-named_from l = l.count
