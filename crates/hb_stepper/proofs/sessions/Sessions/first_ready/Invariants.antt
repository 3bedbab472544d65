use Rattle.hb_node.specs.Lists.{Onward}
use Rattle.hb_stepper.specs.Running.{running}
use Rattle.hb_stepper.proofs.Turns.{TurnAt}
use Rattle.hb_stepper.proofs.sessions.Sessions.first_ready.Given as goal

abbrev pub invariant-turn : goal.invariant-turn
invariant-turn g l = record {
  turn : TurnAt (running l.initial.self (g.N.Nodes.lists l.initial.nodes)) l.nth (running l.self (g.N.Nodes.lists l.nodes));
  goes : Onward g.N.Nodes.goes l.initial.nodes l.nodes;
}
