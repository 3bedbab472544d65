use Rattle.hb_moments.proofs.Cuts.{has_cut}
use Rattle.hb_moments.proofs.laws.cuts_are.Goals as goal

pub returns : goal.returns
returns c = λ moment h trails fronts lists lines hist z. has_cut moment h trails fronts lists lines hist z
