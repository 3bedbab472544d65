use Rattle.std.proofs.Common.{refl, sym, ◌∙◌}
use Rattle.std.proofs.lemmas.Bool.{false≢true}
use Rattle.hb_node.specs.Lists.{here}
use Rattle.hb_stepper.specs.Steps.{at_start, not_yet}
use Rattle.hb_stepper.proofs.sessions.Sessions.run_out.Goals as goal

pub returns-then-not-is_going-clause-ran : goal.returns-then-not-is_going-clause-ran
returns-then-not-is_going-clause-ran g c = record { count = 0; ran = not_yet; idle = λ h. refl; stopped = sym c.is_going.ensures ∙ c.if-not-is_going.true }

pub returns-then-not-is_going-clause-part : goal.returns-then-not-is_going-clause-part
returns-then-not-is_going-clause-part g c = at_start

pub returns-then-not-is_going-clause-goes : goal.returns-then-not-is_going-clause-goes
returns-then-not-is_going-clause-goes g c = here

pub returns-clause-ran : goal.returns-clause-ran
returns-clause-ran g c = record {
  count = c.in_ok-run.field-0;
  ran = c.in_ok-run.ensures.ran;
  idle = λ h. absurd (false≢true (sym h ∙ sym c.is_going.ensures ∙ c.if-not-is_going.false));
  stopped = sym c.is_going-2.ensures ∙ c.if-is_going.false;
}
