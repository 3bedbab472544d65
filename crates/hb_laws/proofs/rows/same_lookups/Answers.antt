use Rattle.hb_laws.proofs.RowLaws.{rows_same}
use Rattle.hb_laws.proofs.rows.same_lookups.Goals as goal

pub returns : goal.returns
returns c = rows_same
