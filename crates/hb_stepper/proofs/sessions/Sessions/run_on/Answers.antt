use Rattle.std.proofs.Common.{sym, ◌∙◌}
use Rattle.hb_node.specs.Lists.{here}
use Rattle.hb_stepper.specs.Closing.{runs_on, rests}
use Rattle.hb_stepper.specs.Steps.{at_start}
use Rattle.hb_stepper.proofs.Stepping.{onward_on, made_on}
use Rattle.hb_stepper.proofs.sessions.Sessions.run_on.Goals as goal

pub returns-then-not-is_going-clause-ran : goal.returns-then-not-is_going-clause-ran
returns-then-not-is_going-clause-ran g c = rests (sym c.is_going.ensures ∙ c.if-not-is_going.true)

pub returns-then-not-is_going-clause-part : goal.returns-then-not-is_going-clause-part
returns-then-not-is_going-clause-part g c = at_start

pub returns-then-not-is_going-clause-goes : goal.returns-then-not-is_going-clause-goes
returns-then-not-is_going-clause-goes g c = here

pub returns-in_err-resume_waiting-clause-part : goal.returns-in_err-resume_waiting-clause-part
returns-in_err-resume_waiting-clause-part g c = made_on _ _ _ c.in_ok-run_out.ensures.part c.in_err-resume_waiting.ensures.part

pub returns-in_err-resume_waiting-clause-goes : goal.returns-in_err-resume_waiting-clause-goes
returns-in_err-resume_waiting-clause-goes g c = onward_on g.N.Nodes.goes _ _ _ c.in_ok-run_out.ensures.goes c.in_err-resume_waiting.ensures.goes

pub returns-clause-ran : goal.returns-clause-ran
returns-clause-ran g c = runs_on _ _ (sym c.is_going.ensures ∙ c.if-not-is_going.false) c.in_ok-run_out.ensures.ran c.in_ok-resume_waiting.ensures.resumed

pub returns-clause-part : goal.returns-clause-part
returns-clause-part g c = made_on _ _ _ c.in_ok-run_out.ensures.part c.in_ok-resume_waiting.ensures.part

pub returns-clause-goes : goal.returns-clause-goes
returns-clause-goes g c = onward_on g.N.Nodes.goes _ _ _ c.in_ok-run_out.ensures.goes c.in_ok-resume_waiting.ensures.goes
