use Rattle.std.proofs.Common.{◌∙◌, sym}
use Rattle.hb_engine.proofs.Ending.{is_vote}
use Rattle.hb_engine.proofs.Turning.{not_live}
use Rattle.hb_engine.proofs.engine.Engine.vote.Goals as goal

pub returns-in_ok-changes-in-Some : goal.returns-in_ok-changes-in-Some
returns-in_ok-changes-in-Some c =
    let e = c.args.self.now in
    λ rows s st. is_vote e.slots e.locks e.floor rows s c.args.tx c.in-Some.branch.now c.in_ok-locks-in-Some.locks c.in_ok-changes-in-Some.changes st (sym c.in-Some.ensures)
    c.in_ok-locks-in-Some.ensures.ascending c.in_ok-locks-in-Some.ensures.each (c.in_ok-changes-in-Some.ensures ∙ c.changes.ensures.all)

pub returns-in-None : goal.returns-in-None
returns-in-None c =
    let e = c.args.self.now in
    λ rows s st. not_live e.slots e.locks e.floor rows s c.args.tx.0 st (sym c.in-None.ensures)
