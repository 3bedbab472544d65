use Rattle.std.proofs.Common.{length}
use Rattle.hb_sqlparse.proofs.Reaching.{Reached}
use Rattle.hb_sqlparse.proofs.parser.parse.Given as goal

abbrev pub invariant-loop-placed : goal.invariant-loop-placed
invariant-loop-placed l = Reached l.fn.line l.left l.reached

abbrev pub decreases-loop-placed : goal.decreases-loop-placed
decreases-loop-placed l = length l.left
