use Rattle.hb_moments.proofs.Came.{lists_came}
use Rattle.hb_moments.proofs.laws.has_lists.Goals as goal

pub returns : goal.returns
returns c = λ moment h kept lists is_cut order. lists_came moment h kept lists is_cut order
