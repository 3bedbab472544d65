use Rattle.hb_reach.specs.Told.{meanings}
use Rattle.hb_reach.proofs.Reaching.{answered_at, answered_by, got_elsewhere}
use Rattle.hb_reach.proofs.reach.Reach.ask_server.Goals as goal

pub returns-clause-answered : goal.returns-clause-answered
returns-clause-answered g c =
    let m = meanings g.N.Node.named g.N.Node.trail g.N.Node.explains g.N.Node.leaves g.N.Node.last in
    answered_at m c.args.self.now.nodes.items c.args.at c.index_mut.result.now c.ask.new.self _ _ c.requires.at c.index_mut.ensures.value
    (answered_by m c.index_mut.result.now c.ask.new.self _ c.ask.ensures.name c.ask.ensures.entered c.ask.ensures.law c.ask.ensures.images c.ask.ensures.in_time c.ask.ensures.told)

pub returns-clause-others : goal.returns-clause-others
returns-clause-others g c = λ i h. got_elsewhere c.args.self.now.nodes.items c.args.at i c.ask.new.self h
