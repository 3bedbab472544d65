use Rattle.std.proofs.Common.{sym, subst}
use Rattle.hb_types.specs.Lists.{Each}
use Rattle.hb_planrows.specs.PlanRows.{IsSited}
use Rattle.hb_planrows.proofs.Numbers.{areas_step, route_sited}
use Rattle.hb_planrows.proofs.entries.areas_in_rows.Goals as goal

pub loop-row-preserved : goal.loop-row-preserved
loop-row-preserved c =
    let entry = c.in_ok-entry_in.field-0 in
    let areas = c.loop-row.areas.items in
    let put = c.in_ok-put_route.ensures in (
      areas_step c.args.rows.now c.loop-row.row-index c.row-item.result c.row-item.is c.loop-row-test.true areas c.put_route.new.areas.items entry
          c.loop-row.invariant.0 c.as_slice.result.now c.as_slice.ensures c.in_ok-entry_in.ensures.told put,
      subst (Each IsSited) (sym put) (route_sited areas entry c.in_ok-entry_in.ensures.sited c.loop-row.invariant.1),
    )
