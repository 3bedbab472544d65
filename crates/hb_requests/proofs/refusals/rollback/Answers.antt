use Rattle.std.proofs.Common.{refl}
use Rattle.hb_requests.proofs.refusals.rollback.Goals as goal

pub returns-in-Voted-clause-turns : goal.returns-in-Voted-clause-turns
returns-in-Voted-clause-turns c = (refl, λ rows s st. (c.in-Voted.field-0.0, (c.in-Voted.ensures rows s st).0))
