use Rattle.std.proofs.Common.{Bool, subst}
use Rattle.hb_node.specs.Lists.{here}
use Rattle.hb_stepper.specs.Running.{running}
use Rattle.hb_serve.specs.Doing.{GoesOn}
use Rattle.hb_serve.proofs.Given.{gave}
use Rattle.hb_serve.proofs.giving.give.Goals as goal

pub returns-in_err-taken-clause-goes : goal.returns-in_err-taken-clause-goes
returns-in_err-taken-clause-goes g c = here

pub returns-clause-gave : goal.returns-clause-gave
returns-clause-gave g c =
    let P : Bool → Type 0 = λ b. GoesOn b c.args.name.now (running c.give.new.self (g.N.Nodes.lists c.args.nodes.now)) (running c.run_on.new.sessions (g.N.Nodes.lists c.run_on.new.nodes)) in
    gave (running c.args.sessions.now (g.N.Nodes.lists c.args.nodes.now)) (running c.give.new.self (g.N.Nodes.lists c.args.nodes.now)) (running c.run_on.new.sessions (g.N.Nodes.lists c.run_on.new.nodes)) c.args.name.now c.args.work c.args.held
    c.in_ok-taken.taken c.give.result c.in_ok-taken.ensures (c.give.ensures.given (g.N.Nodes.lists c.args.nodes.now)) (subst P c.goes_on.ensures c.in_ok-run_on.ensures.on)
