use Rattle.std.proofs.Common.{inr}
use Rattle.hb_stepper.proofs.Stepping.{on_err}
use Rattle.hb_stepper.proofs.sessions.Sessions.ready.Goals as goal

pub returns-in_err-copy-clause-none : goal.returns-in_err-copy-clause-none
returns-in_err-copy-clause-none c = on_err c.from_residual-in_err-copy.result _ (λ lists. inr (c.in_ok-place.place, c.in_ok-place.ensures.named lists))
