use Rattle.std.proofs.Common.{◌∙◌}
use Rattle.hb_dict.proofs.TableSteps.{table_has_row, table_written}
use Rattle.hb_dict.proofs.table.table_row.Goals as goal

pub encode_row-requires : goal.encode_row-requires
encode_row-requires c = rw (c.as_slice.ensures, c.in_ok-values.ensures) (table_has_row c.args.table.now c.requires.taken c.requires.named c.requires.columns_named)

pub returns-clause-read : goal.returns-clause-read
returns-clause-read c =
    table_written c.args.table.now c.as_slice.result.now c.encode_row.result (c.as_slice.ensures ∙ c.in_ok-values.ensures) c.encode_row.ensures c.requires.taken
    (table_has_row c.args.table.now c.requires.taken c.requires.named c.requires.columns_named)
