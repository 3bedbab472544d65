use Rattle.hb_moments.proofs.AtCut.{history, shows_items}
use Rattle.hb_moments.proofs.laws.cuts_are_histories.Goals as goal

pub returns : goal.returns
returns c = λ moment h kept trails fronts lists came lines is_cut hist nodes are shown at. (
  history moment h kept trails fronts lists came lines is_cut hist nodes are shown at,
  shows_items moment h kept trails fronts lists came lines is_cut hist nodes are shown at,
)
