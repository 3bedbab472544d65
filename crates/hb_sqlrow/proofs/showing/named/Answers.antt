use Rattle.hb_model.specs.Values.{value_in}
use Rattle.hb_sqlrow.proofs.Steps.{filter_map_more}
use Rattle.hb_sqlrow.proofs.showing.named.Goals as goal

pub loop-name-preserved : goal.loop-name-preserved
loop-name-preserved c =
    filter_map_more (value_in c.args.columns.now c.args.row.now) c.args.names.now c.loop-name.name-index c.name-item.result c.as_slice.result.now c.loop-name.out c.put_named.new.out
    c.loop-name-test.true c.name-item.is c.as_slice.ensures c.loop-name.invariant c.in_ok-put_named.ensures
