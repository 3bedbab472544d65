use Rattle.std.proofs.Common.{refl, sym, ◌∙◌}
use Rattle.hb_node.specs.Lists.{here}
use Rattle.hb_stepper.specs.Closing.{rolled_back, has_none}
use Rattle.hb_stepper.specs.Running.{running}
use Rattle.hb_stepper.proofs.Adding.{adds_same, grows_made, grows_on}
use Rattle.hb_stepper.proofs.LastTurns.{grows_given_up}
use Rattle.hb_stepper.proofs.RolledBack.{rolls_back}
use Rattle.hb_stepper.proofs.sessions.Sessions.roll_back.Goals as goal

pub returns-then-not-is_open-clause-closed : goal.returns-then-not-is_open-clause-closed
returns-then-not-is_open-clause-closed g c = has_none (sym c.is_open.ensures ∙ c.if-not-is_open.true)

pub returns-then-not-is_open-clause-adds : goal.returns-then-not-is_open-clause-adds
returns-then-not-is_open-clause-adds g c = adds_same _ _ refl

pub returns-then-not-is_open-clause-names : goal.returns-then-not-is_open-clause-names
returns-then-not-is_open-clause-names g c = adds_same _ _ refl

pub returns-then-not-is_open-clause-goes : goal.returns-then-not-is_open-clause-goes
returns-then-not-is_open-clause-goes g c = here

pub give_up-requires-clause-open : goal.give_up-requires-clause-open
give_up-requires-clause-open g c = sym c.is_open.ensures ∙ c.if-not-is_open.false

pub returns-in_err-run_out-clause-adds : goal.returns-in_err-run_out-clause-adds
returns-in_err-run_out-clause-adds g c =
    let lists = g.N.Nodes.lists c.args.nodes.now in
    (grows_on (running c.args.self.now lists) _ _ (grows_given_up _ _ c.args.place (c.give_up.ensures lists)) (grows_made _ _ c.in_err-run_out.ensures.part)).lines

pub returns-in_err-run_out-clause-names : goal.returns-in_err-run_out-clause-names
returns-in_err-run_out-clause-names g c =
    let lists = g.N.Nodes.lists c.args.nodes.now in
    (grows_on (running c.args.self.now lists) _ _ (grows_given_up _ _ c.args.place (c.give_up.ensures lists)) (grows_made _ _ c.in_err-run_out.ensures.part)).names

pub returns-clause-closed : goal.returns-clause-closed
returns-clause-closed g c =
    let lists = g.N.Nodes.lists c.args.nodes.now in
    rolled_back _ (sym c.is_open.ensures ∙ c.if-not-is_open.false) (rolls_back _ _ _ c.args.place (c.give_up.ensures lists) c.in_ok-run_out.ensures.ran)

pub returns-clause-adds : goal.returns-clause-adds
returns-clause-adds g c =
    let lists = g.N.Nodes.lists c.args.nodes.now in
    (grows_on (running c.args.self.now lists) _ _ (grows_given_up _ _ c.args.place (c.give_up.ensures lists)) (grows_made _ _ c.in_ok-run_out.ensures.part)).lines

pub returns-clause-names : goal.returns-clause-names
returns-clause-names g c =
    let lists = g.N.Nodes.lists c.args.nodes.now in
    (grows_on (running c.args.self.now lists) _ _ (grows_given_up _ _ c.args.place (c.give_up.ensures lists)) (grows_made _ _ c.in_ok-run_out.ensures.part)).names
