use Rattle.std.proofs.Common.{sym}
use Rattle.hb_engine.proofs.Ending.{standing_absent, standing_live, standing_voted}
use Rattle.hb_engine.proofs.engine.Engine.standing.Goals as goal

pub returns-in-Some-vote : goal.returns-in-Some-vote
returns-in-Some-vote c =
    let e = c.args.self.now in
    λ rows s st. standing_voted e.slots e.locks e.floor rows s c.args.tx.0 c.in-Some.slot.now c.in-Some-vote.floor st (sym c.in-Some.ensures.value) c.in-Some-vote.is

pub returns-in-None-vote : goal.returns-in-None-vote
returns-in-None-vote c =
    let e = c.args.self.now in
    λ rows s st. standing_live e.slots e.locks e.floor rows s c.args.tx.0 c.in-Some.slot.now st (sym c.in-Some.ensures.value) c.in-None-vote.is

pub returns-in-None : goal.returns-in-None
returns-in-None c =
    let e = c.args.self.now in
    λ rows s st. standing_absent e.slots e.locks e.floor rows s c.args.tx.0 st (sym c.in-None.ensures.value)
