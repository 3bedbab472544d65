use Rattle.std.proofs.Common.{◌≡◌, ℕ, ◌<◌, ◌≤◌, false, length}
use Rattle.hb_node.specs.Lists.{Onward}
use Rattle.hb_stepper.specs.Closing.{InTurn, RunsOn}
use Rattle.hb_stepper.specs.Running.{running, seat_is, going}
use Rattle.hb_stepper.specs.Steps.{Made}
use Rattle.hb_stepper.proofs.sessions.Sessions.run_all.Given as goal

abbrev pub invariant-places : goal.invariant-places
invariant-places g l = record {
  within : l.place ≤ length l.initial.self.seats.items;
  ran : InTurn RunsOn (running l.initial.self (g.N.Nodes.lists l.initial.nodes)) l.place (running l.self (g.N.Nodes.lists l.nodes));
  stopped : (k : ℕ) → k < l.place → seat_is going l.self.seats.items k ≡ false;
  part : Made (running l.initial.self (g.N.Nodes.lists l.initial.nodes)) (running l.self (g.N.Nodes.lists l.nodes));
  goes : Onward g.N.Nodes.goes l.initial.nodes l.nodes;
}
