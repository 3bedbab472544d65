use Rattle.hb_moments.proofs.FirstLines.{in_order}
use Rattle.hb_moments.proofs.laws.first_lines_in_order.Goals as goal

pub returns : goal.returns
returns c = λ logs txns shorter h n begins ordered. in_order logs txns shorter h n begins ordered
