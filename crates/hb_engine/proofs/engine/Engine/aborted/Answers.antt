use Rattle.std.proofs.Common.{sym, ◌∙◌}
use Rattle.hb_engine.proofs.Ending.{abort_turn, doubt_changes, never_gone}
use Rattle.hb_engine.proofs.engine.Engine.aborted.Goals as goal

pub returns-in-Some : goal.returns-in-Some
returns-in-Some c =
    let e = c.args.self.now in
    λ rows s f st d. (
      doubt_changes e.slots e.locks e.floor rows s c.args.tx f c.in-Some.slot st d (sym c.in-Some.ensures.slot) ∙ sym c.into_list.ensures,
      abort_turn e.slots c.remove.new.slots e.locks c.remove.new.locks e.floor rows s c.args.tx f st d c.remove.ensures.slots c.remove.ensures.released c.remove.ensures.compatible,
    )

pub returns-in-None : goal.returns-in-None
returns-in-None c =
    let e = c.args.self.now in
    λ rows s f st d. never_gone e.slots e.locks e.floor rows s c.args.tx.0 f st d (sym c.in-None.ensures.slot)
