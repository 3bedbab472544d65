use Rattle.hb_moments.proofs.Within.{keep_within}
use Rattle.hb_moments.proofs.laws.lists_keep_within.Goals as goal

pub returns : goal.returns
returns c = λ lists came obey operator placed numbers z. keep_within lists came z obey operator placed numbers
