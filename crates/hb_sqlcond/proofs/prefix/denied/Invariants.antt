use Rattle.std.proofs.Common.{◌≡◌}
use Rattle.hb_sqlcond.specs.Operands.{nots_of}
use Rattle.hb_sqlcond.proofs.prefix.denied.Given as goal

abbrev pub invariant-loop-left : goal.invariant-loop-left
invariant-loop-left l = nots_of l.left l.pred ≡ nots_of l.fn.count l.fn.pred

abbrev pub decreases-loop-left : goal.decreases-loop-left
decreases-loop-left l = l.left
