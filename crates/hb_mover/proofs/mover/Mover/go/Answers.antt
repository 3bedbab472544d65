use Rattle.std.proofs.Common.{ap, sym, ◌∙◌, subst}
use Rattle.hb_turn.specs.declared.stage.Stage.TheVariants as stage
use Rattle.hb_turn.specs.declared.stage.Task.TheVariants as task
use Rattle.hb_turn.specs.Turning.{Turning}
use Rattle.hb_mover.specs.Moving.{Moving}
use Rattle.hb_mover.specs.Steps.{BeginsTurn}
use Rattle.hb_mover.proofs.Going.{check_begins, turn_begins}
use Rattle.hb_mover.proofs.mover.Mover.go.Goals as goal

pub returns-in-Some : goal.returns-in-Some
returns-in-Some c =
    let old = c.args.self.now in
    let t : Turning = c.turn_to.new.self in
    let h = c.in-Some.hint in
    subst (λ (m : Moving). BeginsTurn old (record m { turn = t })) (sym c.self.view_is)
    (turn_begins old c.next_hint.new.self h t c.in-Some.ensures (c.turn_to.ensures.next ∙ ap (λ (m : Moving). record m.turn { stage = stage.Keys h }) c.self.view_is))

pub returns-in-None : goal.returns-in-None
returns-in-None c =
    let old = c.args.self.now in
    let t : Turning = c.check.new.self in
    subst (λ (m : Moving). BeginsTurn old (record m { turn = t })) (sym c.self.view_is)
    (check_begins old c.next_hint.new.self t c.in-None.ensures.0 c.in-None.ensures.1
    (c.check.ensures.next ∙ ap (λ (m : Moving). record m.turn { stage = stage.Begins task.Check }) c.self.view_is))
