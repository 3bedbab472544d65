use Rattle.std.proofs.Common.{◌≡◌, take, map, All}
use Rattle.hb_batch.specs.Batches.{hint_of, IsSitedHint}
use Rattle.hb_moveplan.specs.MovePlans.{hints_among, TellGroups}
use Rattle.hb_moveplan.proofs.hints.hints_in.Given as goal

abbrev pub invariant-loop-row : goal.invariant-loop-row
invariant-loop-row l = (TellGroups l.fn.rows → map hint_of l.hints ≡ hints_among l.fn.table (take l.row-index l.fn.rows)) × All IsSitedHint l.hints
