use Rattle.hb_moments.proofs.AtMoment.{at_moment}
use Rattle.hb_moments.proofs.laws.moments_are_callings.Goals as goal

pub returns : goal.returns
returns c = λ w h moment images t hist order left. at_moment w h moment images t hist order left
