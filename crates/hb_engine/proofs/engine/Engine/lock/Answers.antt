use Rattle.std.proofs.Common.{◌∙◌, sym}
use Rattle.hb_engine.proofs.Turning.{none_of}
use Rattle.hb_engine.proofs.Climbing.{lock_leads, lock_no_branch}
use Rattle.hb_engine.proofs.engine.Engine.lock.Goals as goal

pub returns-then-not-is_live : goal.returns-then-not-is_live
returns-then-not-is_live c =
    let e = c.args.self.now in
    λ rows s st. lock_no_branch e.slots e.locks e.floor rows s c.args.tx c.args.path c.args.mode st (none_of _ (sym c.is_live.ensures ∙ c.if-not-is_live.true))

pub returns : goal.returns
returns c =
    let e = c.args.self.now in
    λ rows s st. lock_leads e.slots e.locks c.climb.new.locks e.floor rows s c.args.tx c.args.path c.args.mode c.climb.result st (sym c.is_live.ensures ∙ c.if-not-is_live.false) c.climb.ensures
