use Rattle.std.proofs.Common.{◌∙◌}
use Rattle.hb_engine.proofs.Counting.{votes_are}
use Rattle.hb_engine.proofs.engine.Engine.votes.Goals as goal

pub returns : goal.returns
returns c =
    let e = c.args.self.now in
    λ rows s st. c.votes_in.ensures.count ∙ votes_are e.slots e.locks e.floor rows s c.votes_in.ensures.ordered st
