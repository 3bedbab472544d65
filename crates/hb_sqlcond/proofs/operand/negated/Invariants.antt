use Rattle.std.proofs.Common.{◌≡◌}
use Rattle.hb_sqlcond.specs.Operands.{minuses_of}
use Rattle.hb_sqlcond.proofs.operand.negated.Given as goal

abbrev pub invariant-loop-left : goal.invariant-loop-left
invariant-loop-left l = minuses_of l.left l.value ≡ minuses_of l.fn.count l.fn.value

abbrev pub decreases-loop-left : goal.decreases-loop-left
decreases-loop-left l = l.left
