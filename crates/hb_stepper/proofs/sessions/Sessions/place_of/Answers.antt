use Rattle.std.proofs.Common.{[], refl, inr}
use Rattle.hb_node.specs.Lists.{Lists}
use Rattle.hb_stepper.specs.Running.{running}
use Rattle.hb_stepper.proofs.Adding.{grows_named, grows_same}
use Rattle.hb_stepper.proofs.sessions.Sessions.place_of.Goals as goal

nothing : Lists
nothing = λ name. []

pub returns-in-Some-clause-adds : goal.returns-in-Some-clause-adds
returns-in-Some-clause-adds c = (grows_same (running c.args.self.now nothing) _ refl).lines

pub returns-in-Some-clause-names : goal.returns-in-Some-clause-names
returns-in-Some-clause-names c = (grows_same (running c.args.self.now nothing) _ refl).names

pub returns-in_err-place-in-None-clause-adds : goal.returns-in_err-place-in-None-clause-adds
returns-in_err-place-in-None-clause-adds c = (grows_same _ _ (c.in_err-place-in-None.ensures.none nothing)).lines

pub returns-in_err-place-in-None-clause-names : goal.returns-in_err-place-in-None-clause-names
returns-in_err-place-in-None-clause-names c = (grows_same _ _ (c.in_err-place-in-None.ensures.none nothing)).names

pub returns-in_ok-place-in-None-clause-named : goal.returns-in_ok-place-in-None-clause-named
returns-in_ok-place-in-None-clause-named c = λ lists. inr (c.in_ok-place-in-None.ensures.added lists)

pub returns-in_ok-place-in-None-clause-adds : goal.returns-in_ok-place-in-None-clause-adds
returns-in_ok-place-in-None-clause-adds c = (grows_named _ _ c.args.name.now _ (inr (c.in_ok-place-in-None.ensures.added nothing))).lines

pub returns-in_ok-place-in-None-clause-names : goal.returns-in_ok-place-in-None-clause-names
returns-in_ok-place-in-None-clause-names c = (grows_named _ _ c.args.name.now _ (inr (c.in_ok-place-in-None.ensures.added nothing))).names
