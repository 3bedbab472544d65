use Rattle.hb_whole.specs.Read.{Reading}
use Rattle.hb_whole.proofs.decode.rows_behind.Given as goal

abbrev pub invariant-loop-left : goal.invariant-loop-left
invariant-loop-left l = Reading l.fn.count l.body l.rows l.at l.left

abbrev pub decreases-loop-left : goal.decreases-loop-left
decreases-loop-left l = l.left
