use Rattle.hb_types.proofs.PutLaws.{lookup-put}
use Rattle.hb_laws.proofs.rows.lookup_in_changed.Goals as goal

pub returns : goal.returns
returns c = lookup-put
