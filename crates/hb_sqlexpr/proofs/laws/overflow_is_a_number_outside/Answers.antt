use Rattle.hb_sqlexpr.proofs.ExactLevels.{value_limited}
use Rattle.hb_sqlexpr.proofs.ExactTruths.{truth_limited}
use Rattle.hb_sqlexpr.proofs.Typed.{value_outside}
use Rattle.hb_sqlexpr.proofs.TypedTruths.{truth_outside}
use Rattle.hb_sqlexpr.proofs.laws.overflow_is_a_number_outside.Goals as goal

pub returns-clause-value : goal.returns-clause-value
returns-clause-value c = value_limited

pub returns-clause-truth : goal.returns-clause-truth
returns-clause-truth c = truth_limited

pub returns-clause-value_outside : goal.returns-clause-value_outside
returns-clause-value_outside c = value_outside

pub returns-clause-truth_outside : goal.returns-clause-truth_outside
returns-clause-truth_outside c = truth_outside
