use Rattle.std.proofs.Common.{◌≡◌, ℕ, ◌<◌, ◌≤◌, false, length}
use Rattle.hb_node.specs.Lists.{Onward}
use Rattle.hb_stepper.specs.Closing.{InTurn, IsClosed}
use Rattle.hb_stepper.specs.Running.{running, seat_is, going, open_now}
use Rattle.hb_stepper.proofs.Adding.{Grows}
use Rattle.hb_stepper.proofs.sessions.Sessions.roll_all_back.Given as goal

abbrev pub invariant-places : goal.invariant-places
invariant-places g l = record {
  within : l.place ≤ length l.initial.self.seats.items;
  closed : InTurn IsClosed (running l.initial.self (g.N.Nodes.lists l.initial.nodes)) l.place (running l.self (g.N.Nodes.lists l.nodes));
  over : (k : ℕ) → k < l.place → seat_is open_now l.self.seats.items k ≡ false;
  stopped : (k : ℕ) → seat_is going l.self.seats.items k ≡ false;
  count : length l.self.seats.items ≡ length l.initial.self.seats.items;
  grows : Grows (running l.initial.self (g.N.Nodes.lists l.initial.nodes)) (running l.self (g.N.Nodes.lists l.nodes));
  goes : Onward g.N.Nodes.goes l.initial.nodes l.nodes;
}
