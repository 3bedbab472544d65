use Rattle.std.proofs.Common.{◌≡◌, sym, ◌∙◌, subst, ◌⊎◌, inl, Err}
use Rattle.hb_types.specs.Numbers.{IsNumber}
use Rattle.hb_model.specs.declared.reply.Reply.TheVariants as reply
use Rattle.hb_talk.specs.Talk.{says}
use Rattle.hb_access.specs.Accesses.{use_of}
use Rattle.hb_access.specs.declared.usage.Usage.{Usage}
use Rattle.hb_commit.specs.Driving.{AreBranches}
use Rattle.hb_plan.specs.Planned.{now_talks, now_hears}
use Rattle.hb_session.specs.Sitting.{planned}
use Rattle.hb_session.specs.Steps.{GivesTalk, IsSameUse}
use Rattle.hb_session.proofs.Branches.{used_next}
use Rattle.hb_session.proofs.Moving.{asks_at, used_refusal}
use Rattle.hb_session.proofs.Begins.{given_asks, given_refused, if_ok}
use Rattle.hb_session.proofs.session.Session.give_plan.Goals as goal

pub hold-requires-clause-asking : goal.hold-requires-clause-asking
hold-requires-clause-asking c =
    let held = c.next.new.self in
    let told = c.in-Ask.ensures.next in
    record {
      used = (
        subst IsNumber (sym c.in-Ask.ensures.tx) c.requires.used.0,
        used_next c.args.plan held.usage.used.0 c.in-Ask.node c.in-Ask.request (now_hears held) c.in-Ask.ensures.used (c.in-Ask.ensures.sound c.requires.used.0).1 told.1 (inl c.requires.used.1),
      );
      waiting = told.0;
    }

pub returns-in-Ask-clause-given : goal.returns-in-Ask-clause-given
returns-in-Ask-clause-given c =
    let plan = c.args.plan in
    let s = c.args.self.now in
    let held = c.next.new.self in
    let e = c.in-Ask.ensures in
    subst (λ n. GivesTalk (λ sts. planned s sts (now_talks plan)) plan.usage s n) (sym c.hold.ensures)
    (given_asks s plan held c.in-Ask.node c.in-Ask.request e.next.1 (asks_at plan.usage held c.in-Ask.node c.in-Ask.request e.branch e.tx e.used))

pub give_refused-requires-clause-tx : goal.give_refused-requires-clause-tx
give_refused-requires-clause-tx c = subst (λ (u : Usage). IsNumber u.tx.0) (sym c.used_by.ensures) (subst IsNumber (sym c.in-Refused.ensures.tx) c.requires.used.0)

pub give_refused-requires-clause-used : goal.give_refused-requires-clause-used
give_refused-requires-clause-used c =
    subst (λ (u : Usage). AreBranches u.used.0) (sym c.used_by.ensures)
    (subst AreBranches (sym (c.in-Refused.ensures.used ∙ used_refusal c.args.plan.usage.used.0 c.in-Refused.reply)) c.requires.used.1)

pub returns-in-Refused-clause-given : goal.returns-in-Refused-clause-given
returns-in-Refused-clause-given c =
    let p = c.args.plan in
    let r = c.in-Refused.reply in
    let v = c.used_by.result in
    let told : (now_talks p ≡ says (Err r, use_of v)) ⊎ (r ≡ reply.NoMemory) =
    subst (λ u. (now_talks p ≡ says (Err r, use_of u)) ⊎ (r ≡ reply.NoMemory)) (sym c.used_by.ensures) c.in-Refused.ensures.next in
    let alike : IsSameUse p.usage v = subst (IsSameUse p.usage) (sym c.used_by.ensures) (c.in-Refused.ensures.tx, c.in-Refused.ensures.used ∙ used_refusal p.usage.used.0 r) in
    if_ok c.give_refused.result _ _ (λ x h. given_refused c.args.self.now c.give_refused.new.self p v r alike told h.0 h.1) c.give_refused.ensures.given
