use Rattle.std.proofs.Common.{◌≡◌, true, ap, refl, sym, ◌∙◌, subst, ◌⊎◌, inl, Err, Ok}
use Rattle.hb_types.specs.Numbers.{IsNumber}
use Rattle.hb_model.specs.declared.reply.Reply.TheVariants as reply
use Rattle.hb_talk.specs.Sessions.{rolls_back}
use Rattle.hb_talk.specs.Talk.{says}
use Rattle.hb_access.specs.Accesses.{keeps_nodes, use_of}
use Rattle.hb_access.specs.declared.usage.Usage.{Usage}
use Rattle.hb_commit.specs.Driving.{AreBranches}
use Rattle.hb_plan.specs.Planned.{IsTold, now_talks, now_hears}
use Rattle.hb_wait.specs.Courses.{free}
use Rattle.hb_session.specs.Sitting.{planned, IsUsed}
use Rattle.hb_session.specs.Steps.{CarriesOnIf, IsSameUse}
use Rattle.hb_session.specs.declared.session.Progress.TheVariants as progress
use Rattle.hb_access.proofs.Nodes.{still}
use Rattle.hb_session.proofs.Plans.{carried_if, replied_if}
use Rattle.hb_session.proofs.Refusing.{Refuses, refused_if}
use Rattle.hb_session.proofs.session.Session.take.Goals as goal

pub go_on-requires-clause-tx : goal.go_on-requires-clause-tx
go_on-requires-clause-tx c = subst IsNumber (sym c.in-More.ensures.tx) c.requires.asking.used.0

pub go_on-requires-clause-starts : goal.go_on-requires-clause-starts
go_on-requires-clause-starts c = inl (subst AreBranches (sym (still _ _ _ refl c.in-More.ensures.used)) c.requires.asking.used.1)

pub returns-in-More : goal.returns-in-More
returns-in-More c =
    let u = c.args.plan.usage in
    let v = c.take.new.self.usage in
    let alike : IsSameUse u v = (c.in-More.ensures.tx, still _ _ _ refl c.in-More.ensures.used) in
    carried_if (IsTold c.args.plan c.args.answer) c.args.self.now c.go_on.new.self (now_hears c.args.plan c.args.answer) (now_talks c.take.new.self)
    u v c.go_on.result (λ told. (c.in-More.ensures.hears told).1) alike c.go_on.ensures

pub open-requires : goal.open-requires
open-requires c =
    subst IsUsed (sym c.used_by.ensures)
    (subst IsNumber (sym c.in-Replied.ensures.tx) c.requires.asking.used.0, subst AreBranches (sym (still _ _ _ refl c.in-Replied.ensures.used)) c.requires.asking.used.1)

pub returns-in-Replied : goal.returns-in-Replied
returns-in-Replied c =
    let s = c.args.self.now in
    let t = now_hears c.args.plan c.args.answer in
    let u = c.args.plan.usage in
    let v = c.used_by.result in
    let r = c.in-Replied.reply in
    let T : Type 0 = IsTold c.args.plan c.args.answer in
    let told : T → t ≡ says (Ok r, use_of v) = λ x. subst (λ w. t ≡ says (Ok r, use_of w)) (sym c.used_by.ensures) (c.in-Replied.ensures.hears x) in
    let alike : IsSameUse u v = subst (IsSameUse u) (sym c.used_by.ensures) (c.in-Replied.ensures.tx, still _ _ _ refl c.in-Replied.ensures.used) in
    subst (λ n. CarriesOnIf T (λ sts. free (planned s sts t)) u s n (progress.Shown r)) (sym c.open.ensures) (replied_if T s t u v r told alike)

pub refuse-requires-clause-tx : goal.refuse-requires-clause-tx
refuse-requires-clause-tx c = subst (λ (u : Usage). IsNumber u.tx.0) (sym c.used_by-in-Refused.ensures) (subst IsNumber (sym c.in-Refused.ensures.tx) c.requires.asking.used.0)

pub refuse-requires-clause-used : goal.refuse-requires-clause-used
refuse-requires-clause-used c = λ is.
    subst (λ (u : Usage). AreBranches u.used.0) (sym c.used_by-in-Refused.ensures) (subst AreBranches (sym (still _ _ _ is c.in-Refused.ensures.used)) c.requires.asking.used.1)

pub returns-in-Refused : goal.returns-in-Refused
returns-in-Refused c =
    let t = now_hears c.args.plan c.args.answer in
    let r = c.in-Refused.reply in
    let u = c.args.plan.usage in
    let v = c.used_by-in-Refused.result in
    let T : Type 0 = IsTold c.args.plan c.args.answer in
    let told : T → (t ≡ says (Err r, use_of v)) ⊎ (r ≡ reply.NoMemory) =
    λ x. subst (λ w. (t ≡ says (Err r, use_of w)) ⊎ (r ≡ reply.NoMemory)) (sym c.used_by-in-Refused.ensures) (c.in-Refused.ensures.hears x) in
    let keeps : keeps_nodes u.used.0 v.used.0 (rolls_back r) ≡ true =
    subst (λ (w : Usage). keeps_nodes u.used.0 w.used.0 (rolls_back r) ≡ true) (sym c.used_by-in-Refused.ensures) c.in-Refused.ensures.used in
    let e = c.refuse.ensures in
    let refuses : Refuses c.args.self.now c.refuse.new.self v r c.refuse.result = record { carries = e.carries; more = e.more; leads = e.leads; rolled = e.rolled; ending = e.ending } in
    refused_if T c.args.self.now c.refuse.new.self t u v r c.refuse.result (ap (λ w. w.tx.0) c.used_by-in-Refused.ensures ∙ c.in-Refused.ensures.tx) keeps told refuses
