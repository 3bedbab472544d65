use Rattle.std.proofs.Common.{◌≡◌, max, refl, rules}
use Rattle.hb_coord.proofs.Knowing.{knows_ids}
use Rattle.hb_coord.proofs.kept.Recorded.reserve.Goals as goal

pub returns : goal.returns
returns c = λ log knows.
    let is : c.max-self.result ≡ max c.args.self.now.reserved c.args.upto = search rules in
    knows_ids log c.args.self.now _ c.args.upto knows is refl refl
