use Rattle.hb_reach.specs.Told.{meanings}
use Rattle.hb_system.proofs.Begins.{starts_by}
use Rattle.hb_system.proofs.starting.start.Goals as goal

pub returns-in-Started-clause-starts : goal.returns-in-Started-clause-starts
returns-in-Started-clause-starts g c =
    let m = meanings g.N.Node.named g.N.Node.trail g.N.Node.explains g.N.Node.leaves g.N.Node.last in
    starts_by m c.args.node.now c.ask.new.self c.ask.result c.in-Started.doubts c.args.clock.now c.ask.new.clock c.ask.ensures.name c.in-Started.is c.ask.ensures.entered c.ask.ensures.law c.ask.ensures.images c.ask.ensures.in_time
