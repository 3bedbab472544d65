use Rattle.hb_laws.proofs.RowLaws.{put_ascends}
use Rattle.hb_laws.proofs.rows.changed_rows_ascend.Goals as goal

pub returns : goal.returns
returns c = put_ascends
