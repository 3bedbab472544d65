use Rattle.hb_types.specs.Records.{change_bytes}
use Rattle.hb_codec.proofs.Joined.{writes_more}
use Rattle.hb_codec.proofs.writing.put_changes.Goals as goal

pub loop-change-preserved : goal.loop-change-preserved
loop-change-preserved c =
    writes_more change_bytes c.args.changes.now c.loop-change.change-index c.change-item.result c.args.out.now.items c.loop-change.out.items c.put_change.new.out.items
    c.loop-change-test.true c.change-item.is c.in_ok-put_change.ensures c.loop-change.invariant
