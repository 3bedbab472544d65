use Rattle.std.proofs.Common.{length}
use Rattle.hb_dict.proofs.ColumnSteps.{HasRead}
use Rattle.hb_dict.proofs.columns.columns_of.Given as goal

abbrev pub decreases-loop-rest : goal.decreases-loop-rest
decreases-loop-rest l = length l.rest

abbrev pub invariant-loop-rest : goal.invariant-loop-rest
invariant-loop-rest l = HasRead l.values l.columns l.rest
