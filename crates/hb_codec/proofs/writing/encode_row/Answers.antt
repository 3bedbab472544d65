use Rattle.std.proofs.Common.{◌∷◌, [], length}
use Rattle.hb_types.specs.Rows.{value_bytes}
use Rattle.hb_codec.proofs.Joined.{writes_more}
use Rattle.hb_codec.proofs.writing.encode_row.Goals as goal

pub loop-value-preserved : goal.loop-value-preserved
loop-value-preserved c =
    writes_more value_bytes c.args.values.now c.loop-value.value-index c.value-item.result (1 ∷ length c.args.values.now ∷ []) c.loop-value.out.items c.put_value.new.out.items
    c.loop-value-test.true c.value-item.is c.in_ok-put_value.ensures c.loop-value.invariant
