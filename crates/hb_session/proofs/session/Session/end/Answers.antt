use Rattle.std.proofs.Common.{◌≡◌, ap, sym, ◌∙◌, subst}
use Rattle.hb_node.specs.Lists.{here, onward}
use Rattle.hb_types.specs.declared.request.Request.TheVariants as request
use Rattle.hb_talk.specs.Ends.{ending}
use Rattle.hb_commit.specs.Driving.{using, reply_to, now_talks as driver_talks}
use Rattle.hb_wait.specs.declared.pending.Pending.TheVariants as pending
use Rattle.hb_session.specs.Sitting.{Sitting, replies}
use Rattle.hb_session.specs.Steps.{Makes}
use Rattle.hb_session.specs.contracts.session.Session.{the_view}
use Rattle.hb_session.specs.declared.session.Progress.TheVariants as progress
use Rattle.hb_session.specs.declared.stage.Ending.{Ending}
use Rattle.hb_session.specs.declared.stage.Stage.TheVariants as stage
use Rattle.hb_session.proofs.Ends.{ends_with, end_asks, end_told}
use Rattle.hb_session.proofs.session.Session.end.Goals as goal

pub returns-in-Ask-clause-steps : goal.returns-in-Ask-clause-steps
returns-in-Ask-clause-steps g c =
    let r = c.parts-driver.result in
    let e : Ending = record { usage = r.0; driver = r.1; back = r.2 } in
    let same : e ≡ c.args.ending = ap (λ x. record { usage = x.0; driver = x.1; back = x.2 }) c.parts-driver.ensures in
    let old : Sitting = the_view c.self.inside in
    let new : Sitting = record old { stage = ends_with r.0 c.take.new.self r.2.reply } in
    let node = c.in-Ask.node in
    let q = c.in-Ask.request in
    let a = c.ask.result in
    let made : Makes (record old { stage = stage.Ends e }) new (pending.Asks node q) a progress.More =
    end_asks old e c.next.new.self c.take.new.self node q a c.in-Ask.ensures.next.2 c.take.ensures.hears in (
      pending.Asks node q,
      a,
      c.ask.ensures.well_formed,
      c.ask.ensures.one_more,
      subst (λ x. Makes (record c.args.self.now { stage = stage.Ends x }) new (pending.Asks node q) a progress.More) same
          (subst (λ s. Makes (record s { stage = stage.Ends e }) new (pending.Asks node q) a progress.More) c.self.view_is made),
    )

pub returns-in-Ended-clause-steps : goal.returns-in-Ended-clause-steps
returns-in-Ended-clause-steps g c =
    let r = c.parts-driver.result in
    let s = c.args.self.now in
    let e : Ending = record { usage = r.0; driver = r.1; back = r.2 } in
    let same : e ≡ c.args.ending = ap (λ x. record { usage = x.0; driver = x.1; back = x.2 }) c.parts-driver.ensures in
    let tx : e.driver.tx ≡ e.usage.tx = subst (λ (x : Ending). x.driver.tx ≡ x.usage.tx) (sym same) c.requires.ending.tx in
    let left = c.in-Ended.left in
    let how = c.in-Ended.outcome in
    let said = c.reply-in-Ended.result in
    let told : reply_to (replies s r.2.reply) how ≡ said =
    sym (c.reply-in-Ended.ensures ∙ ap (λ b. reply_to (replies s b) how) c.reply.ensures) in
    let talk : driver_talks (replies s r.2.reply) r.1 r.0.locks r.0.bytes ≡ ending (using r.1 r.0.locks r.0.bytes) left.0 said =
    c.in-Ended.ensures.next.2 (replies s r.2.reply) r.0.locks r.0.bytes ∙ ap (λ x. ending (using r.1 r.0.locks r.0.bytes) left.0 x) told in
    let a = c.tell_end.ensures.told.0 in
    let p = pending.Asks (record { 0 = 10 }) (request.End r.0.tx left) in (
      p,
      a,
      c.tell_end.ensures.told.1,
      c.tell_end.ensures.told.2,
      subst (λ x. Makes (record s { stage = stage.Ends x }) s p a (progress.Ended said)) same (end_told s e left said a c.requires.stage tx talk),
    )

pub returns-in-Ask-clause-goes : goal.returns-in-Ask-clause-goes
returns-in-Ask-clause-goes g c = onward _ _ here c.ask.ensures.goes
