use Rattle.hb_reach.specs.Told.{meanings, seen}
use Rattle.hb_reach.proofs.Names.{goes_all, numbered_by}
use Rattle.hb_reach.proofs.reach.nodes_stay.Goals as goal

pub returns-clause-count : goal.returns-clause-count
returns-clause-count g c = λ from calls.
    let n = meanings g.N.Node.named g.N.Node.trail g.N.Node.explains g.N.Node.leaves g.N.Node.last in
    let m = meanings g.M.Node.named g.M.Node.trail g.M.Node.explains g.M.Node.leaves g.M.Node.last in
    (goes_all (λ r. seen n m r.nodes.items r.manager r.clock) from c.args._reach.now calls).count

pub returns-clause-numbered : goal.returns-clause-numbered
returns-clause-numbered g c = λ from calls few are.
    let n = meanings g.N.Node.named g.N.Node.trail g.N.Node.explains g.N.Node.leaves g.N.Node.last in
    let m = meanings g.M.Node.named g.M.Node.trail g.M.Node.explains g.M.Node.leaves g.M.Node.last in
    numbered_by n m from.nodes.items c.args._reach.now.nodes.items from.manager c.args._reach.now.manager from.clock c.args._reach.now.clock
    (goes_all (λ r. seen n m r.nodes.items r.manager r.clock) from c.args._reach.now calls) few are
