use Rattle.std.proofs.Common.{◌≡◌, suc, drop, ◌+◌, arith, subst}
use Rattle.hb_mover.specs.Moving.{Moving}
use Rattle.hb_mover.specs.Steps.{TakesHint}
use Rattle.hb_mover.specs.contracts.mover.Mover.{the_view}
use Rattle.hb_mover.proofs.Stepping.{takes}
use Rattle.hb_mover.proofs.mover.Mover.next_hint.Goals as goal

pub returns : goal.returns
returns c =
    let i = c.self.inside in
    let less = c.in_ok-left.left in
    let h = c.in_ok-hint.hint in
    let counted : i.left ≡ suc less = omega (arith, c.in_ok-left.ensures) in
    subst (λ (m : Moving). TakesHint m (record (the_view i) { left = less }) h) c.self.view_is
    (takes i.turn i.left less (drop i.at i.hints) (drop (i.at + 1) i.hints) h c.in_ok-hint.ensures.hint counted c.self.invariant)
