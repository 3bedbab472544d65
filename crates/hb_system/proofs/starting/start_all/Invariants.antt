use Rattle.std.proofs.Common.{◌≡◌, ℕ, ◌≤◌, length, get_or}
use Rattle.hb_reach.specs.Told.{meanings}
use Rattle.hb_system.specs.Starting.{AreNamedAs, EachStarts}
use Rattle.hb_system.proofs.starting.start_all.Given as goal

abbrev pub invariant-loop-i : goal.invariant-loop-i
invariant-loop-i g l = record {
  starts : EachStarts (meanings g.N.Node.named g.N.Node.trail g.N.Node.explains g.N.Node.leaves g.N.Node.last) l.fn.clock l.clock l.i l.fn.nodes l.nodes;
  untouched : (k : ℕ) (d : g.row.N.Denot) → l.i ≤ k → get_or l.nodes k d ≡ get_or l.fn.nodes k d;
  long : length l.nodes ≡ length l.fn.nodes;
  clock : l.fn.clock ≤ l.clock;
  names : AreNamedAs g.N.Node.named l.fn.nodes l.nodes;
}
