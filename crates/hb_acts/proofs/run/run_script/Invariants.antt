use Rattle.std.proofs.Common.{◌≡◌, ◌+◌, ◌≤◌, ℕ, length}
use Rattle.hb_edge.specs.Streams.{with_front}
use Rattle.hb_reach.specs.Told.{meanings}
use Rattle.hb_stepper.specs.Running.{running}
use Rattle.hb_acts.specs.Outside.{seen, GoesOn}
use Rattle.hb_node.specs.Lists.{Onward}
use Rattle.hb_reach.specs.Goes.{Goes}
use Rattle.hb_acts.proofs.Clocks.{lists_now, told_now}
use Rattle.hb_acts.proofs.Running.{OnItsWay}
use Rattle.hb_acts.proofs.run.run_script.Given as goal

abbrev pub invariant-script : goal.invariant-script
invariant-script g l = record {
  clock : l.fn.clock ≤ l.clock;
  behind : l.fn.nodes.clock ≤ l.fn.clock → l.nodes.clock ≤ l.clock;
  goes : Onward (λ a b. Goes (told_now (meanings g.N.Node.named g.N.Node.trail g.N.Node.explains g.N.Node.leaves g.N.Node.last) (meanings g.M.Node.named g.M.Node.trail g.M.Node.explains g.M.Node.leaves g.M.Node.last) a) (told_now (meanings g.N.Node.named g.N.Node.trail g.N.Node.explains g.N.Node.leaves g.N.Node.last) (meanings g.M.Node.named g.M.Node.trail g.M.Node.explains g.M.Node.leaves g.M.Node.last) b)) l.fn.nodes l.nodes;
  goes_on : GoesOn (seen g.S.Source.left g.S.Source.faults g.O.Sink.held g.O.Sink.faults l.fn.source l.fn.sink) (seen g.S.Source.left g.S.Source.faults g.O.Sink.held g.O.Sink.faults l.source l.sink);
  way : OnItsWay (running l.fn.sessions (lists_now (meanings g.N.Node.named g.N.Node.trail g.N.Node.explains g.N.Node.leaves g.N.Node.last) (meanings g.M.Node.named g.M.Node.trail g.M.Node.explains g.M.Node.leaves g.M.Node.last) l.fn.nodes)) (g.S.Source.left l.fn.source) (with_front l.reader (g.S.Source.left l.source)) (g.O.Sink.held l.fn.sink) l.number (running l.sessions (lists_now (meanings g.N.Node.named g.N.Node.trail g.N.Node.explains g.N.Node.leaves g.N.Node.last) (meanings g.M.Node.named g.M.Node.trail g.M.Node.explains g.M.Node.leaves g.M.Node.last) l.nodes)) (g.O.Sink.held l.sink);
}

abbrev pub decreases-script : goal.decreases-script
decreases-script g l = length l.reader + g.S.Source.bound l.source
