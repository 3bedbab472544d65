use Rattle.std.proofs.Common.{arith}
use Rattle.hb_reach.specs.Told.{meanings}
use Rattle.hb_reach.proofs.Going.{goes_same}
use Rattle.hb_reach.proofs.Reaching.{armed_at}
use Rattle.hb_reach.proofs.reach.Reach.arm.Goals as goal

pub returns-then-at-len-clause-goes : goal.returns-then-at-len-clause-goes
returns-then-at-len-clause-goes g c =
    let n = meanings g.N.Node.named g.N.Node.trail g.N.Node.explains g.N.Node.leaves g.N.Node.last in
    let m = meanings g.M.Node.named g.M.Node.trail g.M.Node.explains g.M.Node.leaves g.M.Node.last in
    let done = c.arm.ensures in
    armed_at n m c.args.self.now.nodes.items c.args.self.now.manager c.args.node.0 c.index_mut.result.now c.arm.new.self _ c.args.self.now.clock
    (omega (arith, c.if-at-len.true, c.len.ensures)) c.index_mut.ensures.value done.name done.trail done.explains done.leaves done.last

pub returns-else-at-len-clause-goes : goal.returns-else-at-len-clause-goes
returns-else-at-len-clause-goes g c = goes_same _
