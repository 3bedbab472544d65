use Rattle.hb_engine.proofs.Ending.{drop_turn}
use Rattle.hb_engine.proofs.engine.Engine.dropped.Goals as goal

pub returns : goal.returns
returns c =
    let e = c.args.self.now in
    λ rows s st a. drop_turn e.slots c.remove.new.slots e.locks c.remove.new.locks e.floor rows s c.args.tx st a c.remove.ensures.slots c.remove.ensures.released c.remove.ensures.compatible
