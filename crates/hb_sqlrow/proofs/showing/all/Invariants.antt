use Rattle.std.proofs.Common.{◌≡◌, map, take}
use Rattle.hb_sqlrow.proofs.showing.all.Given as goal

abbrev pub invariant-loop-row : goal.invariant-loop-row
invariant-loop-row l = l.out ≡ map (λ x. x.now) (take l.row-index l.rows)
