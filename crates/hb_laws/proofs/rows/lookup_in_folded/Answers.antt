use Rattle.hb_types.proofs.PutLaws.{lookup-put_all}
use Rattle.hb_laws.proofs.rows.lookup_in_folded.Goals as goal

pub returns : goal.returns
returns c = lookup-put_all
