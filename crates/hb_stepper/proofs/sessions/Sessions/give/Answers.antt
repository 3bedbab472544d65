use Rattle.std.proofs.Common.{[], sym, subst}
use Rattle.std.specs.Prelude.{Result}
use Rattle.hb_node.specs.Lists.{Lists}
use Rattle.hb_stepper.specs.declared.fault.StepFault.{StepFault}
use Rattle.hb_stepper.specs.Giving.{Given}
use Rattle.hb_stepper.specs.Running.{running}
use Rattle.hb_stepper.proofs.Adding.{grows_given, grows_part}
use Rattle.hb_stepper.proofs.Refusals.{given_named}
use Rattle.hb_stepper.proofs.sessions.Sessions.give.Goals as goal

nothing : Lists
nothing = λ name. []

pub returns-in-Ok-clause-given : goal.returns-in-Ok-clause-given
returns-in-Ok-clause-given c = λ lists.
    given_named (running c.args.self.now lists) (running c.ready.new.self lists) (running c.give_at.new.self lists) c.args.name.now c.in-Ok.place c.args.work c.args.held c.give_at.result
    (c.in-Ok.ensures.named lists) (c.give_at.ensures lists)

pub returns-in-Ok-clause-adds : goal.returns-in-Ok-clause-adds
returns-in-Ok-clause-adds c =
    (grows_given (running c.args.self.now nothing) (running c.give_at.new.self nothing) c.args.name.now c.args.work c.args.held c.give_at.result
    (given_named (running c.args.self.now nothing) (running c.ready.new.self nothing) (running c.give_at.new.self nothing) c.args.name.now c.in-Ok.place c.args.work c.args.held c.give_at.result
    (c.in-Ok.ensures.named nothing) (c.give_at.ensures nothing))).lines

pub returns-in-Ok-clause-names : goal.returns-in-Ok-clause-names
returns-in-Ok-clause-names c =
    (grows_given (running c.args.self.now nothing) (running c.give_at.new.self nothing) c.args.name.now c.args.work c.args.held c.give_at.result
    (given_named (running c.args.self.now nothing) (running c.ready.new.self nothing) (running c.give_at.new.self nothing) c.args.name.now c.in-Ok.place c.args.work c.args.held c.give_at.result
    (c.in-Ok.ensures.named nothing) (c.give_at.ensures nothing))).names

pub returns-in-Err-clause-given : goal.returns-in-Err-clause-given
returns-in-Err-clause-given c = λ lists.
    let P : Result (Unit {0}) StepFault → Type 0 = λ r. Given (running c.args.self.now lists) c.args.name.now c.args.work c.args.held r (running c.ready.new.self lists) in
    subst P (sym c.not_given.ensures) (c.in-Err.ensures.none lists)

pub returns-in-Err-clause-adds : goal.returns-in-Err-clause-adds
returns-in-Err-clause-adds c = (grows_part _ _ c.args.name.now (c.in-Err.ensures.none nothing)).lines

pub returns-in-Err-clause-names : goal.returns-in-Err-clause-names
returns-in-Err-clause-names c = (grows_part _ _ c.args.name.now (c.in-Err.ensures.none nothing)).names
