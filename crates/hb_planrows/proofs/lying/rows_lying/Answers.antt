use Rattle.std.proofs.Common.{ap, ◌+◌}
use Rattle.hb_planrows.specs.Ranks.{ranked_rows}
use Rattle.hb_planrows.proofs.ByKey.{lying_step}
use Rattle.hb_planrows.proofs.lying.rows_lying.Goals as goal

pub loop-row-preserved : goal.loop-row-preserved
loop-row-preserved c = (
  ap (λ n. n + 1) c.loop-row.invariant.0,
  c.in_ok-put_ranked.ensures.ranks,
  lying_step c.args.rows.now c.loop-row.row-index c.row-item.result c.row-item.is c.loop-row-test.true (ranked_rows c.loop-row.sorted.entries) (ranked_rows c.put_ranked.new.sorted.entries)
      c.in_ok-lying.field-0 c.loop-row.invariant.2 c.in_ok-lying.ensures c.in_ok-put_ranked.ensures.rows,
)
