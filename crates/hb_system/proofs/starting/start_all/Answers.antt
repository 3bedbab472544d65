use Rattle.std.proofs.Common.{◌∙◌, length-set, arith}
use Rattle.std.proofs.Math.Seq.{map-set_same}
use Rattle.hb_reach.specs.Told.{meanings}
use Rattle.hb_system.proofs.Begins.{fault_at, starts_on}
use Rattle.hb_system.proofs.Zips.{got_above}
use Rattle.hb_system.proofs.starting.start_all.Goals as goal

pub loop-i-preserved : goal.loop-i-preserved
loop-i-preserved g c =
    let m = meanings g.N.Node.named g.N.Node.trail g.N.Node.explains g.N.Node.leaves g.N.Node.last in record {
      starts = starts_on m c.args.clock.now c.loop-i.clock c.start.new.clock c.loop-i.i c.args.nodes.now c.loop-i.nodes c.start.new.node _ (omega arith) (omega arith) c.loop-i.invariant.clock c.start.ensures.clock
          c.loop-i.invariant.starts (c.loop-i.invariant.untouched c.loop-i.i _ (omega arith)) c.in-Ok.ensures.starts;
      untouched = λ k d le. got_above c.loop-i.nodes c.loop-i.i k c.start.new.node d (omega (arith, le)) ∙ c.loop-i.invariant.untouched k d (omega (arith, le));
      long = length-set _ _ _ ∙ c.loop-i.invariant.long;
      clock = omega arith;
      names = map-set_same g.N.Node.named c.loop-i.nodes c.loop-i.i c.start.new.node _ c.start.ensures.name ∙ c.loop-i.invariant.names;
    }

pub returns-in-Err-clause-fault : goal.returns-in-Err-clause-fault
returns-in-Err-clause-fault g c = λ is.
    fault_at g.N.Node.faults c.args.nodes.now c.loop-i.nodes c.loop-i.i c.start.new.node _ (omega arith) (omega arith) (c.loop-i.invariant.untouched c.loop-i.i _ (omega arith)) (c.start.ensures.fault (c.in-Err.is ∙ is))

pub returns-in-Err-clause-names : goal.returns-in-Err-clause-names
returns-in-Err-clause-names g c = map-set_same g.N.Node.named c.loop-i.nodes c.loop-i.i c.start.new.node _ c.start.ensures.name ∙ c.loop-i.invariant.names
