use Rattle.std.proofs.Common.{◌≡◌, ◌∷◌, [], get_or, drop, ◌+◌, rules}
use Rattle.hb_print.specs.Records.{field_text, value_text, further_fields}
use Rattle.hb_print.proofs.Pieces.{goes_on, ends, fields_end}
use Rattle.hb_print.proofs.Chains.{fields_at}
use Rattle.hb_print.proofs.records.put_further_fields.Goals as goal

pub loop-value-preserved : goal.loop-value-preserved
loop-value-preserved c =
    let e : c.value-item.result ≡ get_or c.args.row.now c.loop-value.value-index c.value-item.result = search rules in
    goes_on _ _ _ (44 ∷ []) (field_text (value_text c.value-item.result)) (further_fields (drop (c.loop-value.value-index + 1) c.args.row.now)) _ _
    c.in_ok-put.ensures c.in_ok-put_value.ensures
    (fields_at c.args.row.now c.loop-value.value-index c.value-item.result c.loop-value-test.true e)
    c.loop-value.invariant

pub returns : goal.returns
returns c = ends _ _ _ (fields_end c.args.row.now c.loop-value.value-index c.loop-value-test.false) c.loop-value.invariant
