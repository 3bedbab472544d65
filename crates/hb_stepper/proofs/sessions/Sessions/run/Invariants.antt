use Rattle.std.proofs.Common.{◌≡◌, ◌⊎◌, true}
use Rattle.hb_node.specs.Lists.{Onward}
use Rattle.hb_stepper.specs.Running.{running, seat_is, busy, going}
use Rattle.hb_stepper.specs.Steps.{Ran}
use Rattle.hb_stepper.proofs.sessions.Sessions.run.Given as goal

abbrev pub invariant-steps : goal.invariant-steps
invariant-steps g l = record {
  busy : seat_is busy l.self.seats.items l.place ≡ true;
  on : (l.made ≡ 0) ⊎ (seat_is going l.self.seats.items l.place ≡ true);
  ran : Ran l.place (running l.initial.self (g.N.Nodes.lists l.initial.nodes)) l.made (running l.self (g.N.Nodes.lists l.nodes));
  goes : Onward g.N.Nodes.goes l.initial.nodes l.nodes;
}
