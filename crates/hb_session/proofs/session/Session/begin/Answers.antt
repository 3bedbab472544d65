use Rattle.std.proofs.Common.{◌≡◌, ap, sym, ◌∙◌, subst}
use Rattle.hb_node.specs.Lists.{here, onward}
use Rattle.hb_types.specs.declared.answer.Answer.TheVariants as answer
use Rattle.hb_types.specs.declared.request.Request.TheVariants as request
use Rattle.hb_wait.specs.declared.pending.Pending.TheVariants as pending
use Rattle.hb_session.specs.Sitting.{Sitting, counted}
use Rattle.hb_session.specs.Steps.{Makes}
use Rattle.hb_session.specs.declared.session.Progress.TheVariants as progress
use Rattle.hb_session.specs.declared.stage.Stage.TheVariants as stage
use Rattle.hb_session.proofs.Begins.{begun_call, not_begun_call}
use Rattle.hb_session.proofs.session.Session.begin.Goals as goal

pub returns-in-Begun-clause-steps : goal.returns-in-Begun-clause-steps
returns-in-Begun-clause-steps g c =
    let s = c.args.self.now in
    let n = c.saturating_add.result in
    let tx = c.in-Begun.tx in
    let next : n ≡ counted s.begun = c.saturating_add.ensures ∙ ap (λ (x : Sitting). counted x.begun) c.self.view_is in
    let made = subst (λ x. Makes (record s { stage = stage.Begins c.args.given }) x
    (pending.Asks (record { 0 = 0 }) (request.Begin (record { session = s.index; nth = n }))) (answer.Begun tx) progress.More)
    (sym c.enter_next.ensures) (begun_call s c.args.given n tx next) in (
      pending.Asks (record { 0 = 0 }) (request.Begin (record { session = c.self.inside.index; nth = n })),
      answer.Begun tx,
      c.in-Begun.ensures.well_formed,
      c.in-Begun.ensures.one_more,
      subst (λ (x : Sitting). Makes (record s { stage = stage.Begins c.args.given }) c.enter_next.new.self
          (pending.Asks (record { 0 = 0 }) (request.Begin (record { session = x.index; nth = n }))) (answer.Begun tx) progress.More) (sym c.self.view_is) made,
    )

pub returns-in_default-clause-steps : goal.returns-in_default-clause-steps
returns-in_default-clause-steps g c =
    let s = c.args.self.now in
    let n = c.saturating_add.result in
    let a = c.ask.result in
    let r = c.refusal.result in
    let next : n ≡ counted s.begun = c.saturating_add.ensures ∙ ap (λ (x : Sitting). counted x.begun) c.self.view_is in (
      pending.Asks (record { 0 = 0 }) (request.Begin (record { session = c.self.inside.index; nth = n })),
      a,
      c.ask.ensures.well_formed,
      c.ask.ensures.one_more,
      subst (λ (x : Sitting). Makes (record s { stage = stage.Begins c.args.given }) s
          (pending.Asks (record { 0 = 0 }) (request.Begin (record { session = x.index; nth = n }))) a (progress.Ended r)) (sym c.self.view_is)
          (not_begun_call s c.args.given n a r c.requires.stage next c.in_default.not-Begun c.refusal.ensures),
    )

pub returns-in-Begun-clause-goes : goal.returns-in-Begun-clause-goes
returns-in-Begun-clause-goes g c = onward _ _ here c.ask.ensures.goes

pub returns-in_default-clause-goes : goal.returns-in_default-clause-goes
returns-in_default-clause-goes g c = onward _ _ here c.ask.ensures.goes
