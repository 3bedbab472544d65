use Rattle.hb_moveplan.proofs.Groups.{hints_step, sited_step}
use Rattle.hb_moveplan.proofs.hints.hints_in.Goals as goal

pub loop-row-preserved : goal.loop-row-preserved
loop-row-preserved c =
    let found = c.in_ok-hint_in.field-0 in (
      hints_step c.args.table c.args.rows.now c.loop-row.row-index c.row-item.result found c.loop-row.hints c.push_some.new.hints
          c.row-item.is c.loop-row-test.true c.in_ok-hint_in.ensures.told c.loop-row.invariant.0 c.in_ok-push_some.ensures,
      sited_step found c.loop-row.hints c.push_some.new.hints c.in_ok-hint_in.ensures.sited c.loop-row.invariant.1 c.in_ok-push_some.ensures,
    )
