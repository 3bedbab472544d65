use Rattle.std.proofs.Common.{◌≡◌, ap, ◌∙◌, inr}
use Rattle.hb_talk.specs.Moves.{fresh}
use Rattle.hb_talk.specs.PlansDefine.{plan}
use Rattle.hb_access.specs.Accesses.{use_of}
use Rattle.hb_plan.specs.Planned.{now_talks}
use Rattle.hb_session.specs.Sitting.{Sitting}
use Rattle.hb_session.proofs.Begins.{starts, first_carried}
use Rattle.hb_session.proofs.session.Session.start_first.Goals as goal

pub go_on-requires-clause-starts : goal.go_on-requires-clause-starts
go_on-requires-clause-starts c =
    let p = c.begin-plan.result in
    let st = c.args.statement in
    let b = c.self.inside.back_ends in
    inr (starts b st c.args.tx p c.requires.given.0 (c.begin-plan.ensures.usage ∙ c.unused.ensures) (c.begin-plan.ensures.talk ∙ ap (λ u. plan b st (use_of u)) c.unused.ensures))

pub returns : goal.returns
returns c =
    let p = c.begin-plan.result in
    let st = c.args.statement in
    let s = c.args.self.now in
    let b = c.self.inside.back_ends in
    let talk : now_talks p ≡ plan s.back_ends st (fresh c.args.tx.0) =
    c.begin-plan.ensures.talk ∙ ap (λ u. plan b st (use_of u)) c.unused.ensures ∙ ap (λ (x : Sitting). plan x.back_ends st (fresh c.args.tx.0)) c.self.view_is in
    first_carried s c.go_on.new.self st c.args.tx p c.go_on.result c.requires.given.0 (c.begin-plan.ensures.usage ∙ c.unused.ensures) talk c.go_on.ensures
