use Rattle.std.proofs.Common.{arith}
use Rattle.hb_reach.specs.Told.{meanings}
use Rattle.hb_reach.proofs.Reaching.{later_goes}
use Rattle.hb_reach.proofs.reach.Reach.raise.Goals as goal

pub returns-clause-goes : goal.returns-clause-goes
returns-clause-goes g c =
    let n = meanings g.N.Node.named g.N.Node.trail g.N.Node.explains g.N.Node.leaves g.N.Node.last in
    let m = meanings g.M.Node.named g.M.Node.trail g.M.Node.explains g.M.Node.leaves g.M.Node.last in
    later_goes n m c.args.self.now.nodes.items c.args.self.now.manager c.args.self.now.clock _ (omega (arith, c.raise.ensures))
