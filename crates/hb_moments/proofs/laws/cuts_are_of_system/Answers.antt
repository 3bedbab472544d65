use Rattle.hb_moments.proofs.AtMoment.{of_system}
use Rattle.hb_moments.proofs.laws.cuts_are_of_system.Goals as goal

pub returns : goal.returns
returns c = λ base logs moment h trails fronts lists came lines shown k hist cut_hist same ran few system.
    of_system base logs moment h trails fronts lists came lines shown k hist cut_hist same ran few system
