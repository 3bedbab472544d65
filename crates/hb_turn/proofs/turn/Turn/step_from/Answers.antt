use Rattle.std.proofs.Common.{sym, subst}
use Rattle.hb_turn.specs.Steps.{Stepped}
use Rattle.hb_turn.proofs.turn.Turn.step_from.Goals as goal

pub returns-in-Keys-clause-stepped : goal.returns-in-Keys-clause-stepped
returns-in-Keys-clause-stepped g c =
    subst (λ x. Stepped (record c.args.self.now { stage = x }) c.ask_keys.new.self (g.N.Nodes.lists c.args.nodes.now) (g.N.Nodes.lists c.ask_keys.new.nodes) c.ask_keys.result) (sym c.in-Keys.is) c.ask_keys.ensures.stepped

pub returns-in-Begins-clause-stepped : goal.returns-in-Begins-clause-stepped
returns-in-Begins-clause-stepped g c =
    subst (λ x. Stepped (record c.args.self.now { stage = x }) c.begin.new.self (g.N.Nodes.lists c.args.nodes.now) (g.N.Nodes.lists c.begin.new.nodes) c.begin.result) (sym c.in-Begins.is) c.begin.ensures.stepped

pub returns-in-Enters-clause-stepped : goal.returns-in-Enters-clause-stepped
returns-in-Enters-clause-stepped g c =
    subst (λ x. Stepped (record c.args.self.now { stage = x }) c.enter.new.self (g.N.Nodes.lists c.args.nodes.now) (g.N.Nodes.lists c.enter.new.nodes) c.enter.result) (sym c.in-Enters.is) c.enter.ensures.stepped

pub returns-in-Asks-clause-stepped : goal.returns-in-Asks-clause-stepped
returns-in-Asks-clause-stepped g c =
    subst (λ x. Stepped (record c.args.self.now { stage = x }) c.ask.new.self (g.N.Nodes.lists c.args.nodes.now) (g.N.Nodes.lists c.ask.new.nodes) c.ask.result) (sym c.in-Asks.is) c.ask.ensures.stepped

pub returns-in-Ends-clause-stepped : goal.returns-in-Ends-clause-stepped
returns-in-Ends-clause-stepped g c =
    subst (λ x. Stepped (record c.args.self.now { stage = x }) c.end.new.self (g.N.Nodes.lists c.args.nodes.now) (g.N.Nodes.lists c.end.new.nodes) c.end.result) (sym c.in-Ends.is) c.end.ensures.stepped
