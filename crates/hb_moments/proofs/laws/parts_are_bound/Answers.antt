use Rattle.hb_moments.proofs.Bound.{bound}
use Rattle.hb_moments.proofs.laws.parts_are_bound.Goals as goal

pub returns : goal.returns
returns c = λ whole part k asked granted b. bound whole part k asked granted b
