use Rattle.std.proofs.Common.{drop, ◌+◌}
use Rattle.hb_mover.proofs.Stepping.{kept_behind}
use Rattle.hb_mover.proofs.mover.Mover.pass.Goals as goal

pub invariant_of-self : goal.invariant_of-self
invariant_of-self c =
    let i = c.self.inside in kept_behind i.turn (drop i.at i.hints) (drop (i.at + 1) i.hints) c.in-Some.field-0 c.in-Some.ensures.hint c.self.invariant
