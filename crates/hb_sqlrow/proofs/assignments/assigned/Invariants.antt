use Rattle.std.proofs.Common.{take}
use Rattle.hb_sqlrow.proofs.Steps.{Assigns}
use Rattle.hb_sqlrow.proofs.assignments.assigned.Given as goal

abbrev pub invariant-loop-set : goal.invariant-loop-set
invariant-loop-set l = Assigns l.table (take l.set-index l.sets) l.row l.new
