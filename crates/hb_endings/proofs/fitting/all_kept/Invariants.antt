use Rattle.hb_endings.proofs.Steps.{AreKept}
use Rattle.hb_endings.proofs.fitting.all_kept.Given as goal

abbrev pub invariant-loop-l : goal.invariant-loop-l
invariant-loop-l l = AreKept l.table l.yielded l.kept.items
