use Rattle.std.proofs.Common.{map, take}
use Rattle.hb_endings.proofs.Steps.{Updates}
use Rattle.hb_endings.proofs.changes.updates.Given as goal

abbrev pub invariant-rows : goal.invariant-rows
invariant-rows l = Updates l.table l.sets (take l.l-index (map (λ r. r.now) l.found)) l.changes.items
