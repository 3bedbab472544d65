use Rattle.std.proofs.Common.{◌≡◌, true, false, ap, refl, sym, ◌∙◌}
use Rattle.std.proofs.lemmas.Bool.{false≢true}
use Rattle.hb_node.specs.Lists.{here}
use Rattle.hb_session.specs.declared.stage.Stage.TheVariants as stage
use Rattle.hb_session.specs.declared.stage.Stage.{Stage}
use Rattle.hb_session.specs.Sitting.{is_ending}
use Rattle.hb_session.proofs.Begins.{asked_step, shown_step}
use Rattle.hb_session.proofs.session.Session.step_from.Goals as goal

pub returns-in-Begins-clause-stepped : goal.returns-in-Begins-clause-stepped
returns-in-Begins-clause-stepped g c = let e = c.begin.ensures in
    asked_step c.args.self.now c.begin.new.self c.args.stage (stage.Begins c.in-Begins.given) _ _ c.begin.result c.in-Begins.is refl e.same e.leaves e.steps

pub returns-in-Enters-clause-stepped : goal.returns-in-Enters-clause-stepped
returns-in-Enters-clause-stepped g c = let e = c.enter.ensures in
    asked_step c.args.self.now c.enter.new.self c.args.stage (stage.Enters c.in-Enters.tx c.in-Enters.given) _ _ c.enter.result c.in-Enters.is refl e.same e.leaves e.steps

pub returns-in-Asks-clause-stepped : goal.returns-in-Asks-clause-stepped
returns-in-Asks-clause-stepped g c = let e = c.ask.ensures in
    asked_step c.args.self.now c.ask.new.self c.args.stage (stage.Asks c.in-Asks.asking) _ _ c.ask.result c.in-Asks.is refl e.same e.leaves e.steps

pub returns-in-Ends-clause-stepped : goal.returns-in-Ends-clause-stepped
returns-in-Ends-clause-stepped g c = let e = c.end.ensures in
    asked_step c.args.self.now c.end.new.self c.args.stage (stage.Ends c.in-Ends.ending) _ _ c.end.result c.in-Ends.is refl e.same e.leaves e.steps

pub returns-in-Refused-clause-stepped : goal.returns-in-Refused-clause-stepped
returns-in-Refused-clause-stepped g c =
    shown_step c.args.self.now c.open.new.self c.args.stage c.in-Refused.usage c.in-Refused.line c.reply.result _ c.in-Refused.is c.reply.ensures c.open.ensures

pub returns-in-Refused-clause-goes : goal.returns-in-Refused-clause-goes
returns-in-Refused-clause-goes g c = here

not_ending : {A : Type 0} (at st : Stage) → at ≡ st → is_ending st ≡ false → is_ending at ≡ true → A
not_ending at st is not h = absurd (false≢true (sym not ∙ sym (ap is_ending is) ∙ h))

pub returns-in-Begins-clause-ending : goal.returns-in-Begins-clause-ending
returns-in-Begins-clause-ending g c = λ h. not_ending c.args.stage _ c.in-Begins.is refl h

pub returns-in-Enters-clause-ending : goal.returns-in-Enters-clause-ending
returns-in-Enters-clause-ending g c = λ h. not_ending c.args.stage _ c.in-Enters.is refl h

pub returns-in-Asks-clause-ending : goal.returns-in-Asks-clause-ending
returns-in-Asks-clause-ending g c = λ h. not_ending c.args.stage _ c.in-Asks.is refl h

pub returns-in-Ends-clause-ending : goal.returns-in-Ends-clause-ending
returns-in-Ends-clause-ending g c = λ h. c.end.ensures.ending

pub returns-in-Refused-clause-ending : goal.returns-in-Refused-clause-ending
returns-in-Refused-clause-ending g c = λ h. not_ending c.args.stage _ c.in-Refused.is refl h
