use Rattle.hb_reach.specs.Told.{meanings}
use Rattle.hb_reach.proofs.AnswerKinds.{list_kinds}
use Rattle.hb_reach.proofs.reach.lists_are_of_nodes.Goals as goal

pub returns : goal.returns
returns g c = λ name origin named explains.
    let n = meanings g.N.Node.named g.N.Node.trail g.N.Node.explains g.N.Node.leaves g.N.Node.last in
    let m = meanings g.M.Node.named g.M.Node.trail g.M.Node.explains g.M.Node.leaves g.M.Node.last in
    list_kinds n m g.met.N.Node.explained g.met.M.Node.explained c.args._reach.now.nodes.items c.args._reach.now.manager c.args._reach.now.clock name origin named explains
