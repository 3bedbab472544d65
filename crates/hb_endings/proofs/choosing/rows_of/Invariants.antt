use Rattle.std.proofs.Common.{◌≡◌, map, take}
use Rattle.hb_endings.proofs.choosing.rows_of.Given as goal

abbrev pub invariant-loop-l : goal.invariant-loop-l
invariant-loop-l l = map (λ row. row.now) l.rows.items ≡ map (λ p. p.1) (map (λ r. r.now) (take l.l-index l.found))
