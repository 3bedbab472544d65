use Rattle.std.proofs.Common.{ℕ, List, arith, ◌≡◌, sym, subst, max, ◌≤◌}
use Rattle.std.specs.Prelude.{IfOk, OnOk}
use Rattle.hb_node.specs.Lists.{Lists}
use Rattle.hb_reach.specs.Told.{meanings}
use Rattle.hb_stepper.specs.Closing.{Closed}
use Rattle.hb_stepper.specs.Running.{running}
use Rattle.hb_acts.proofs.Clocks.{lists_now, lists_same, moment_on, onward_after, told_now}
use Rattle.hb_acts.proofs.acts.close.Goals as goal

pub returns-clause-done : goal.returns-clause-done
returns-clause-done g c =
    let P : Lists → Type 0 = λ lists. OnOk c.close_all-done.result (Closed (running c.args.sessions.now lists) (running c.close_all-done.new.self (lists_now (meanings g.N.Node.named g.N.Node.trail g.N.Node.explains g.N.Node.leaves g.N.Node.last) (meanings g.M.Node.named g.M.Node.trail g.M.Node.explains g.M.Node.leaves g.M.Node.last) c.close_all-done.new.nodes))) in
    subst P (lists_same (meanings g.N.Node.named g.N.Node.trail g.N.Node.explains g.N.Node.leaves g.N.Node.last) (meanings g.M.Node.named g.M.Node.trail g.M.Node.explains g.M.Node.leaves g.M.Node.last) c.args.nodes.now c.raise.new.self c.raise.ensures.nodes c.raise.ensures.manager) c.close_all-done.ensures.closed

pub returns-clause-goes : goal.returns-clause-goes
returns-clause-goes g c = onward_after _ c.args.nodes.now c.raise.new.self c.close_all-done.new.nodes c.raise.ensures.goes c.close_all-done.ensures.goes

pub returns-clause-clock : goal.returns-clause-clock
returns-clause-clock g c =
    let later = moment_on (told_now (meanings g.N.Node.named g.N.Node.trail g.N.Node.explains g.N.Node.leaves g.N.Node.last) (meanings g.M.Node.named g.M.Node.trail g.M.Node.explains g.M.Node.leaves g.M.Node.last)) c.raise.new.self c.close_all-done.new.nodes c.close_all-done.ensures.goes in
    omega (arith, later, c.raise.ensures.clock, c.clock.ensures)
