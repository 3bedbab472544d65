use Rattle.std.proofs.Common.{map, take}
use Rattle.hb_endings.proofs.Steps.{Looks}
use Rattle.hb_endings.proofs.choosing.chosen.Given as goal

abbrev pub invariant-loop-l : goal.invariant-loop-l
invariant-loop-l l = Looks l.table l.pred (take l.l-index l.rows) (map (λ r. r.now) l.found)
