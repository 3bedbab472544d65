use Rattle.hb_types.proofs.Ascending.{same_members as same_list}
use Rattle.hb_laws.proofs.lists.same_members.Goals as goal

pub returns : goal.returns
returns g c = same_list g.T.Ord.cmp g.met.T.Ord.total
