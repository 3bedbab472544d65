use Rattle.std.proofs.Common.{◌≡◌, sym, subst}
use Rattle.std.specs.Prelude.{Result}
use Rattle.hb_model.specs.declared.line.Work.{Work}
use Rattle.hb_node.specs.Lists.{Lists}
use Rattle.hb_stepper.specs.declared.fault.StepFault.{StepFault}
use Rattle.hb_stepper.specs.Giving.{GivenAt, Refuses, Starts}
use Rattle.hb_stepper.specs.Running.{running}
use Rattle.hb_stepper.proofs.Refusals.{refused_at, started_at, map_ok, map_err}
use Rattle.hb_stepper.proofs.sessions.Sessions.give_at.Goals as goal

pub returns-in-Some : goal.returns-in-Some
returns-in-Some c = λ lists.
    let mid = running c.args.self.now lists in
    let new = running c.refuse.new.self lists in
    let P : Result (Unit {0}) StepFault → Type 0 = λ r. GivenAt mid c.args.place c.args.work c.args.held r new in
    let Q : Work → Type 0 = λ w. Refuses mid c.args.place w c.in-Some.fault new in
    subst P (sym c.refuse.ensures.fault) (refused_at mid new c.args.place c.args.work c.args.held c.in-Some.fault (sym c.in-Some.ensures) (subst Q c.requires.copy (c.refuse.ensures.line lists)))

pub returns-in-None : goal.returns-in-None
returns-in-None c = λ lists.
    let mid = running c.args.self.now lists in
    let new = running c.start.new.self lists in
    let r = c.start.result in
    started_at mid new c.args.place c.args.work c.args.held r (sym c.in-None.ensures)
    (map_ok r ((ls : Lists) → Starts (running c.args.self.now ls) c.args.place c.args.work c.args.held (running c.start.new.self ls)) _ (λ f. f lists) c.start.ensures.started)
    c.start.ensures.none
    (map_err r ((ls : Lists) → running c.start.new.self ls ≡ running c.args.self.now ls) _ (λ f. f lists) c.start.ensures.kept)
