use Rattle.hb_engine.proofs.Ending.{vote_turn}
use Rattle.hb_engine.proofs.engine.Engine.voted.Goals as goal

pub returns : goal.returns
returns c =
    let e = c.args.self.now in
    λ rows s b st live room. vote_turn e.slots c.mark.new.slots e.locks e.floor rows s c.args.tx b st live room c.mark.ensures
