use Rattle.hb_definerows.proofs.Short.{table_is_row}
use Rattle.hb_definerows.proofs.create_table.put_table.Goals as goal

pub put_row-requires : goal.put_row-requires
put_row-requires c = table_is_row _ c.args.table.now c.requires.named.name c.requires.named.columns c.in_ok-row.ensures.read
