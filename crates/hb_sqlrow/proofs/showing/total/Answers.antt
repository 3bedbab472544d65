use Rattle.std.proofs.Common.{arith}
use Rattle.hb_types.specs.Lists.{Each}
use Rattle.hb_sqlrow.specs.Narrow.{IsNarrow}
use Rattle.hb_sqlrow.proofs.Steps.{each_at}
use Rattle.hb_sqlrow.proofs.Totals.{fits_more, totals_more}
use Rattle.hb_sqlrow.proofs.showing.total.Goals as goal

pub overflow_add-sum : goal.overflow_add-sum
overflow_add-sum c = fits_more _ c.number_at-sum.result _ c.loop-row.row-index c.loop-row.invariant (omega arith) c.number_at-sum.ensures.low c.number_at-sum.ensures.high

pub loop-row-preserved : goal.loop-row-preserved
loop-row-preserved c =
    totals_more c.args.columns.now c.args.name.now (λ x. x.now) c.args.rows.now c.loop-row.row-index c.row-item.result c.as_slice.result.now _ c.number_at-sum.result
    c.loop-row-test.true c.row-item.is c.as_slice.ensures c.number_at-sum.ensures.number c.number_at-sum.ensures.low c.number_at-sum.ensures.high (omega arith) c.loop-row.invariant

pub number_at-sum-requires : goal.number_at-sum-requires
number_at-sum-requires c = rw c.as_slice.ensures (each_at (Each IsNarrow) (λ x. x.now) c.args.rows.now c.loop-row.row-index c.row-item.result c.requires c.loop-row-test.true c.row-item.is)
