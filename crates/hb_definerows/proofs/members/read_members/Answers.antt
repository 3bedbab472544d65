use Rattle.hb_talk.specs.PlansDefine.{member_of}
use Rattle.hb_definerows.specs.DefineRows.{TellsMember}
use Rattle.hb_definerows.proofs.Reading.{read_more}
use Rattle.hb_definerows.proofs.members.read_members.Goals as goal

pub loop-row-preserved : goal.loop-row-preserved
loop-row-preserved c =
    read_more TellsMember member_of c.args.rows.now c.loop-row.row-index c.row-item.result c.in_ok-member_in_row.field-0 c.loop-row.members.items c.push_some.new.items.items
    c.row-item.is c.loop-row-test.true c.in_ok-member_in_row.ensures c.loop-row.invariant c.in_ok-push_some.ensures
