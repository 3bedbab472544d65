use Rattle.hb_talk.specs.PlansDefine.{area_of}
use Rattle.hb_definerows.specs.DefineRows.{TellsArea}
use Rattle.hb_definerows.proofs.Reading.{read_more}
use Rattle.hb_definerows.proofs.areas.read_areas.Goals as goal

pub loop-row-preserved : goal.loop-row-preserved
loop-row-preserved c =
    read_more TellsArea area_of c.args.rows.now c.loop-row.row-index c.row-item.result c.in_ok-area_in_row.field-0 c.loop-row.areas.items c.push_some.new.items.items
    c.row-item.is c.loop-row-test.true c.in_ok-area_in_row.ensures c.loop-row.invariant c.in_ok-push_some.ensures
