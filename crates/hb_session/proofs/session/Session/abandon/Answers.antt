use Rattle.std.proofs.Common.{sym, ap, ◌∙◌, subst}
use Rattle.hb_model.specs.declared.reply.Reply.TheVariants as reply
use Rattle.hb_access.specs.Accesses.{use_of}
use Rattle.hb_session.specs.Sitting.{Sitting}
use Rattle.hb_session.specs.Steps.{Abandons, RollsBack}
use Rattle.hb_session.proofs.session.Session.abandon.Goals as goal

pub returns-clause-abandons : goal.returns-clause-abandons
returns-clause-abandons c =
    let new = c.roll_back.new.self in
    let rolled = subst (λ u. RollsBack (use_of u) reply.RolledBackEnd new) c.usage-usage.ensures c.roll_back.ensures.rolls in
    subst (λ st. Abandons st new) (sym c.in-Asks.is ∙ ap (λ (s : Sitting). s.stage) c.self.view_is) rolled
