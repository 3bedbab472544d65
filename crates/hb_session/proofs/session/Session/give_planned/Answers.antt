use Rattle.std.proofs.Common.{◌≡◌, ap, ◌∙◌}
use Rattle.hb_talk.specs.PlansDefine.{plan}
use Rattle.hb_access.specs.Accesses.{use_of}
use Rattle.hb_plan.specs.Planned.{now_talks}
use Rattle.hb_session.specs.Sitting.{Sitting}
use Rattle.hb_session.proofs.Begins.{statement_given, if_ok}
use Rattle.hb_session.proofs.session.Session.give_planned.Goals as goal

pub returns-clause-given : goal.returns-clause-given
returns-clause-given c =
    let s = c.args.self.now in
    let st = c.args.statement in
    let u = c.args.usage in
    let talk : now_talks c.begin-plan.result ≡ plan s.back_ends st (use_of u) = c.begin-plan.ensures.talk ∙ ap (λ (x : Sitting). plan x.back_ends st (use_of u)) c.self.view_is in
    if_ok c.give_plan.result _ _ (λ x h. statement_given s c.give_plan.new.self st u c.begin-plan.result c.requires.given.0 c.requires.stage c.begin-plan.ensures.usage talk h) c.give_plan.ensures.given
