use Rattle.std.proofs.Common.{◌≡◌}
use Rattle.hb_planrows.specs.Ranks.{ranked_rows}
use Rattle.hb_planrows.proofs.ranks.into_rows.Given as goal

abbrev pub invariant-loop-l : goal.invariant-loop-l
invariant-loop-l l = l.rows.items ≡ ranked_rows l.yielded
