use Rattle.std.proofs.Common.{map, take}
use Rattle.hb_sqlrow.proofs.Steps.{Seen}
use Rattle.hb_sqlrow.proofs.choosing.chosen.Given as goal

abbrev pub invariant-loop-row : goal.invariant-loop-row
invariant-loop-row l = Seen l.table l.pred (take l.row-index l.rows) (map (λ r. r.now) l.found)
