use Rattle.std.proofs.Common.{◌≡◌, true, refl, sym, ◌∙◌, inl, inr}
use Rattle.hb_node.specs.Lists.{here}
use Rattle.hb_stepper.specs.Running.{seat_is, going}
use Rattle.hb_stepper.specs.Steps.{not_yet, ran}
use Rattle.hb_stepper.proofs.Stepping.{onward_on, made_on, made_one, made_ran, made_same, going_busy}
use Rattle.hb_stepper.proofs.sessions.Sessions.run.Goals as goal

pub steps-init : goal.steps-init
steps-init g c = record { busy = c.requires; on = inl refl; ran = not_yet; goes = here }

pub returns-in_err-step-clause-part : goal.returns-in_err-step-clause-part
returns-in_err-step-clause-part g c = made_same _ _ _ (made_ran c.args.place _ c.steps.made _ c.steps.invariant.ran) c.in_err-step.ensures.none

pub returns-in_err-step-clause-goes : goal.returns-in_err-step-clause-goes
returns-in_err-step-clause-goes g c = onward_on g.N.Nodes.goes _ _ _ c.steps.invariant.goes c.in_err-step.ensures.goes

pub returns-then-not-is_going-clause-ran : goal.returns-then-not-is_going-clause-ran
returns-then-not-is_going-clause-ran g c =
    ran c.steps.made _ _ c.in_ok-step.ensures.made.0 c.steps.invariant.ran c.steps.invariant.on c.in_ok-step.ensures.made.1

pub returns-then-not-is_going-clause-part : goal.returns-then-not-is_going-clause-part
returns-then-not-is_going-clause-part g c =
    made_on _ _ _ (made_ran c.args.place _ c.steps.made _ c.steps.invariant.ran) (made_one _ _ c.args.place c.in_ok-step.ensures.made.0 c.in_ok-step.ensures.made.1)

pub returns-then-not-is_going-clause-goes : goal.returns-then-not-is_going-clause-goes
returns-then-not-is_going-clause-goes g c = onward_on g.N.Nodes.goes _ _ _ c.steps.invariant.goes c.in_ok-step.ensures.goes

pub steps-preserved : goal.steps-preserved
steps-preserved g c =
    let on : seat_is going c.step.new.self.seats.items c.args.place ≡ true = sym c.is_going.ensures ∙ c.if-not-is_going.false in
    record {
      busy = going_busy c.step.new.self.seats.items c.args.place on;
      on = inr on;
      ran = ran c.steps.made _ _ c.in_ok-step.ensures.made.0 c.steps.invariant.ran c.steps.invariant.on c.in_ok-step.ensures.made.1;
      goes = onward_on g.N.Nodes.goes _ _ _ c.steps.invariant.goes c.in_ok-step.ensures.goes;
    }

pub returns-clause-part : goal.returns-clause-part
returns-clause-part g c = made_ran c.args.place _ c.steps.made _ c.steps.invariant.ran
