use Rattle.std.proofs.Common.{◌≡◌, true, ap, sym, ◌∙◌, subst, ◌⊎◌, Err}
use Rattle.hb_types.specs.Numbers.{IsNumber}
use Rattle.hb_model.specs.declared.reply.Reply.TheVariants as reply
use Rattle.hb_talk.specs.Sessions.{rolls_back}
use Rattle.hb_talk.specs.Talk.{says}
use Rattle.hb_access.specs.Accesses.{keeps_nodes, use_of}
use Rattle.hb_access.proofs.Nodes.{stays}
use Rattle.hb_plan.specs.Planned.{now_talks, now_hears}
use Rattle.hb_wait.specs.Courses.{free}
use Rattle.hb_session.specs.Sitting.{planned}
use Rattle.hb_session.specs.Steps.{CarriesOn}
use Rattle.hb_session.specs.declared.session.Progress.TheVariants as progress
use Rattle.hb_session.proofs.Branches.{used_next, used_refused}
use Rattle.hb_session.proofs.Moving.{used_refusal}
use Rattle.hb_session.proofs.Plans.{asks_next}
use Rattle.hb_session.proofs.Refusing.{Refuses, refused}
use Rattle.hb_session.proofs.session.Session.go_on.Goals as goal

pub hold-requires-clause-asking : goal.hold-requires-clause-asking
hold-requires-clause-asking c =
    let held = c.next.new.self in
    let told = c.in-Ask.ensures.next in
    record {
      used = (
        subst IsNumber (sym c.in-Ask.ensures.tx) c.requires.tx,
        used_next c.args.plan held.usage.used.0 c.in-Ask.node c.in-Ask.request (now_hears held) c.in-Ask.ensures.used (c.in-Ask.ensures.sound c.requires.tx).1 told.1 c.requires.starts,
      );
      waiting = told.0;
    }

pub returns-in-Ask : goal.returns-in-Ask
returns-in-Ask c =
    let plan = c.args.plan in
    let s = c.args.self.now in
    let e = c.in-Ask.ensures in
    subst (λ n. CarriesOn (λ sts. free (planned s sts (now_talks plan))) plan.usage s n progress.More) (sym c.hold.ensures)
    (asks_next s plan c.next.new.self c.in-Ask.node c.in-Ask.request e.next.1 e.branch e.tx e.used)

pub refuse-requires-clause-used : goal.refuse-requires-clause-used
refuse-requires-clause-used c = λ is.
    let told : (now_talks c.args.plan ≡ says (Err c.in-Refused.reply, use_of c.used_by.result)) ⊎ (c.in-Refused.reply ≡ reply.NoMemory) =
    subst (λ u. (now_talks c.args.plan ≡ says (Err c.in-Refused.reply, use_of u)) ⊎ (c.in-Refused.reply ≡ reply.NoMemory)) (sym c.used_by.ensures) c.in-Refused.ensures.next in
    used_refused c.args.plan c.used_by.result c.in-Refused.reply told
    (ap (λ u. u.used.0) c.used_by.ensures ∙ c.in-Refused.ensures.used ∙ used_refusal c.args.plan.usage.used.0 c.in-Refused.reply) c.requires.starts is

pub returns-in-Refused : goal.returns-in-Refused
returns-in-Refused c =
    let r = c.in-Refused.reply in
    let u = c.args.plan.usage in
    let v = c.used_by.result in
    let told : (now_talks c.args.plan ≡ says (Err r, use_of v)) ⊎ (r ≡ reply.NoMemory) =
    subst (λ w. (now_talks c.args.plan ≡ says (Err r, use_of w)) ⊎ (r ≡ reply.NoMemory)) (sym c.used_by.ensures) c.in-Refused.ensures.next in
    let same : v.used.0 ≡ u.used.0 = ap (λ w. w.used.0) c.used_by.ensures ∙ c.in-Refused.ensures.used ∙ used_refusal u.used.0 r in
    let keeps : keeps_nodes u.used.0 v.used.0 (rolls_back r) ≡ true = stays u.used.0 v.used.0 (rolls_back r) same in
    let e = c.refuse.ensures in
    let refuses : Refuses c.args.self.now c.refuse.new.self v r c.refuse.result = record { carries = e.carries; more = e.more; leads = e.leads; rolled = e.rolled; ending = e.ending } in
    refused c.args.self.now c.refuse.new.self (now_talks c.args.plan) u v r c.refuse.result (ap (λ w. w.tx.0) c.used_by.ensures ∙ c.in-Refused.ensures.tx) keeps told refuses
