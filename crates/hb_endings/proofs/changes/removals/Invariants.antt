use Rattle.std.proofs.Common.{◌≡◌, map, take}
use Rattle.hb_talk.specs.Plans.{removing}
use Rattle.hb_endings.proofs.changes.removals.Given as goal

abbrev pub invariant-loop-l : goal.invariant-loop-l
invariant-loop-l l = l.changes.items ≡ map (λ p. removing p.0) (map (λ r. r.now) (take l.l-index l.found))
