use Rattle.std.proofs.Common.{sym, subst}
use Rattle.hb_node.specs.Lists.{here, onward}
use Rattle.hb_types.specs.declared.answer.Answer.TheVariants as answer
use Rattle.hb_types.specs.declared.request.Request.TheVariants as request
use Rattle.hb_access.specs.Accesses.{use_of}
use Rattle.hb_wait.specs.declared.pending.Pending.TheVariants as pending
use Rattle.hb_session.specs.Sitting.{Sitting, owner}
use Rattle.hb_session.specs.Steps.{Makes, RollsBack}
use Rattle.hb_session.specs.declared.session.Progress.TheVariants as progress
use Rattle.hb_session.specs.declared.stage.Stage.TheVariants as stage
use Rattle.hb_session.proofs.Begins.{entered_call, not_entered_call}
use Rattle.hb_session.proofs.session.Session.enter.Goals as goal

pub returns-in-Done-clause-steps : goal.returns-in-Done-clause-steps
returns-in-Done-clause-steps g c =
    let s = c.args.self.now in
    let tx = c.args.tx in (
      pending.Asks (record { 0 = 10 }) (request.Enter tx (record { session = c.self.inside.index; nth = c.self.inside.begun })),
      answer.Done,
      c.in-Done.ensures.well_formed,
      c.in-Done.ensures.one_more,
      subst (λ (x : Sitting). Makes (record s { stage = stage.Enters tx c.args.given }) c.start_first.new.self
          (pending.Asks (record { 0 = 10 }) (request.Enter tx (owner x))) answer.Done c.start_first.result) (sym c.self.view_is)
          (entered_call s c.start_first.new.self c.args.given tx c.statement.result c.start_first.result c.statement.ensures c.start_first.ensures),
    )

pub returns-in_default-clause-steps : goal.returns-in_default-clause-steps
returns-in_default-clause-steps g c =
    let s = c.args.self.now in
    let tx = c.args.tx in
    let a = c.ask.result in
    let r = c.refusal.result in
    let rolled = subst (λ u. RollsBack (use_of u) r c.roll_back.new.self) c.unused.ensures c.roll_back.ensures.rolls in (
      pending.Asks (record { 0 = 10 }) (request.Enter tx (record { session = c.self.inside.index; nth = c.self.inside.begun })),
      a,
      c.ask.ensures.well_formed,
      c.ask.ensures.one_more,
      subst (λ (x : Sitting). Makes (record s { stage = stage.Enters tx c.args.given }) c.roll_back.new.self
          (pending.Asks (record { 0 = 10 }) (request.Enter tx (owner x))) a progress.More) (sym c.self.view_is)
          (not_entered_call s c.roll_back.new.self c.args.given tx a r c.in_default.not-Done c.refusal.ensures c.roll_back.ensures.begun rolled c.roll_back.ensures.ending),
    )

pub returns-in-Done-clause-goes : goal.returns-in-Done-clause-goes
returns-in-Done-clause-goes g c = onward _ _ here c.ask.ensures.goes

pub returns-in_default-clause-goes : goal.returns-in_default-clause-goes
returns-in_default-clause-goes g c = onward _ _ here c.ask.ensures.goes
