use Rattle.std.proofs.Common.{◌≡◌, ap, sym, subst}
use Rattle.hb_session.specs.Steps.{Makes}
use Rattle.hb_session.specs.declared.session.Progress.TheVariants as progress
use Rattle.hb_session.specs.declared.stage.Asking.{Asking}
use Rattle.hb_session.specs.declared.stage.Stage.TheVariants as stage
use Rattle.hb_session.proofs.Plans.{answered_call, waits_call, more_call}
use Rattle.hb_session.proofs.session.Session.ask.Goals as goal

pub returns-in-Answered-clause-steps : goal.returns-in-Answered-clause-steps
returns-in-Answered-clause-steps g c =
    let r = c.parts-plan.result in
    let s = c.args.self.now in
    let e : Asking = record { plan = r.0; pending = r.1 } in
    let same : e ≡ c.args.asking = ap (λ x. record { plan = x.0; pending = x.1 }) c.parts-plan.ensures in
    let h = c.in-Answered.ensures.heard in (
      r.1,
      h.0,
      h.1,
      h.2,
      subst (λ x. Makes (record s { stage = stage.Asks x }) c.take.new.self r.1 h.0 c.take.result) same
          (answered_call s c.take.new.self e h.0 c.in-Answered.answer c.take.result (sym h.3) c.take.ensures),
    )

pub returns-in-Waits-clause-steps : goal.returns-in-Waits-clause-steps
returns-in-Waits-clause-steps g c =
    let r = c.parts-plan.result in
    let s = c.args.self.now in
    let e : Asking = record { plan = r.0; pending = r.1 } in
    let same : e ≡ c.args.asking = ap (λ x. record { plan = x.0; pending = x.1 }) c.parts-plan.ensures in
    let h = c.in-Waits.ensures.heard in (
      r.1,
      h.0,
      h.1,
      h.2,
      subst (λ x. Makes (record s { stage = stage.Asks x }) c.hold.new.self r.1 h.0 (progress.Waits c.in-Waits.edges)) same
          (subst (λ n. Makes (record s { stage = stage.Asks e }) n r.1 h.0 (progress.Waits c.in-Waits.edges)) (sym c.hold.ensures)
          (waits_call s e h.0 c.in-Waits.lock c.in-Waits.edges (sym h.3))),
    )

pub returns-in-More-clause-steps : goal.returns-in-More-clause-steps
returns-in-More-clause-steps g c =
    let r = c.parts-plan.result in
    let s = c.args.self.now in
    let e : Asking = record { plan = r.0; pending = r.1 } in
    let same : e ≡ c.args.asking = ap (λ x. record { plan = x.0; pending = x.1 }) c.parts-plan.ensures in
    let h = c.in-More.ensures.heard in (
      r.1,
      h.0,
      h.1,
      h.2,
      subst (λ x. Makes (record s { stage = stage.Asks x }) c.hold-in-More.new.self r.1 h.0 progress.More) same
          (subst (λ n. Makes (record s { stage = stage.Asks e }) n r.1 h.0 progress.More) (sym c.hold-in-More.ensures)
          (more_call s e h.0 c.in-More.pending (sym h.3))),
    )
