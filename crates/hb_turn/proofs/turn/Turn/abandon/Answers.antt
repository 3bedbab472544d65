use Rattle.std.proofs.Common.{sym, ap, ◌∙◌, subst}
use Rattle.hb_model.specs.declared.reply.Reply.TheVariants as reply
use Rattle.hb_access.specs.Accesses.{use_of}
use Rattle.hb_turn.specs.Turning.{Turning}
use Rattle.hb_turn.specs.Steps.{GivesUp, RollsBack}
use Rattle.hb_turn.specs.declared.stage.After.TheVariants as after
use Rattle.hb_turn.proofs.turn.Turn.abandon.Goals as goal

pub returns-clause-gives_up : goal.returns-clause-gives_up
returns-clause-gives_up c =
    let new = c.roll_back.new.self in
    let rolled = subst (λ u. RollsBack (use_of u) (after.Over reply.RolledBackEnd) new) c.usage-usage.ensures c.roll_back.ensures.rolls in
    subst (λ st. GivesUp st new) (sym c.in-Asks.is ∙ ap (λ (t : Turning). t.stage) c.self.view_is) rolled
