use Rattle.std.proofs.Common.{List}
use Rattle.hb_types.specs.declared.value.Value.{Value}
use Rattle.hb_types.specs.Rows.{IsRowOf}
use Rattle.hb_codec.specs.RowReaders.{row_in}
use Rattle.hb_codec.proofs.Calculus.{tells_ok, tells_err}
use Rattle.hb_codec.proofs.RowGrammar.{reads_any_row}
use Rattle.hb_codec.proofs.rows.decode_row.Goals as goal

pub returns-clause-row : goal.returns-clause-row
returns-clause-row c = tells_ok (λ (values : List Value) b. IsRowOf b values) (row_in 0 65537) reads_any_row c.args.bytes.now c.row_of.result c.row_of.ensures

pub returns-clause-not_a_row : goal.returns-clause-not_a_row
returns-clause-not_a_row c = tells_err (λ (values : List Value) b. IsRowOf b values) (row_in 0 65537) reads_any_row c.args.bytes.now c.row_of.result c.row_of.ensures
