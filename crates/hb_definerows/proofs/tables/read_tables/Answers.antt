use Rattle.hb_model.specs.Told.{found_in}
use Rattle.hb_planrows.specs.PlanRows.{TellsTable}
use Rattle.hb_definerows.proofs.Reading.{read_more}
use Rattle.hb_definerows.proofs.tables.read_tables.Goals as goal

pub loop-row-preserved : goal.loop-row-preserved
loop-row-preserved c =
    read_more TellsTable found_in c.args.rows.now c.loop-row.row-index c.row-item.result c.in_ok-table_in_row.field-0 c.loop-row.tables.items c.push_some.new.items.items
    c.row-item.is c.loop-row-test.true c.in_ok-table_in_row.ensures.told c.loop-row.invariant c.in_ok-push_some.ensures
