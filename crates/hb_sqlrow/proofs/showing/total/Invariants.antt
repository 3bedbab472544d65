use Rattle.std.proofs.Common.{map, take}
use Rattle.hb_model.specs.Rows.{total}
use Rattle.hb_sqlrow.proofs.Steps.{IsTotal}
use Rattle.hb_sqlrow.proofs.showing.total.Given as goal

abbrev pub invariant-loop-row : goal.invariant-loop-row
invariant-loop-row l = IsTotal l.sum (total l.columns l.name (map (λ x. x.now) (take l.row-index l.rows))) l.row-index
