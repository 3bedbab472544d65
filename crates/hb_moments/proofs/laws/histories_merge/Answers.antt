use Rattle.hb_moments.proofs.AtCut.{merged}
use Rattle.hb_moments.proofs.laws.histories_merge.Goals as goal

pub returns : goal.returns
returns c = λ h trails lists lines hist. merged h trails lists lines hist
