use Rattle.hb_node.specs.Lists.{Onward}
use Rattle.hb_stepper.specs.Running.{running}
use Rattle.hb_stepper.specs.Steps.{Rounds}
use Rattle.hb_stepper.proofs.sessions.Sessions.resume_waiting.Given as goal

abbrev pub invariant-rounds : goal.invariant-rounds
invariant-rounds g l = record {
  rounds : Rounds (running l.initial.self (g.N.Nodes.lists l.initial.nodes)) (running l.self (g.N.Nodes.lists l.nodes));
  goes : Onward g.N.Nodes.goes l.initial.nodes l.nodes;
}
