use Rattle.std.proofs.Common.{◌≡◌, true, ap, sym, ◌∙◌, subst, Err}
use Rattle.hb_types.specs.Numbers.{IsNumber}
use Rattle.hb_types.specs.Lists.{Each}
use Rattle.hb_model.specs.NodeSets.{has_node, nodes_in}
use Rattle.hb_talk.specs.Talk.{says}
use Rattle.hb_access.specs.Accesses.{use_of}
use Rattle.hb_access.specs.declared.usage.Usage.{Usage}
use Rattle.hb_access.proofs.Nodes.{each_in}
use Rattle.hb_moveplan.specs.MovePlans.{now_hears, now_talks, usage_of}
use Rattle.hb_wait.specs.Courses.{free}
use Rattle.hb_turn.specs.Turning.{owner, planned}
use Rattle.hb_turn.specs.Steps.{CarriesOn}
use Rattle.hb_turn.specs.declared.turn.Went.TheVariants as went
use Rattle.hb_turn.proofs.Branches.{used_next, used_refusal}
use Rattle.hb_turn.proofs.Calls.{asks_next, refused}
use Rattle.hb_turn.proofs.turn.Turn.go_on.Goals as goal

pub hold-requires-clause-asking : goal.hold-requires-clause-asking
hold-requires-clause-asking c =
    let held = c.next.new.self in
    let told = c.in-Ask.ensures.next in
    record {
      used = (
        subst IsNumber (sym c.in-Ask.ensures.tx) c.requires.tx,
        used_next c.args.plan (usage_of held).used.0 c.in-Ask.node c.in-Ask.request (now_hears held) c.in-Ask.ensures.used (c.in-Ask.ensures.sound c.requires.tx).1 told.1 c.requires.starts,
      );
      waiting = told.0;
    }

pub returns-in-Ask : goal.returns-in-Ask
returns-in-Ask c =
    let t = c.args.self.now in
    subst (λ n. CarriesOn (free (planned (owner t) c.args.group (now_talks c.args.plan))) (usage_of c.args.plan) t n went.More) (sym c.hold.ensures)
    (asks_next t c.args.group c.args.plan c.next.new.self c.in-Ask.node c.in-Ask.request c.in-Ask.ensures.next.1)

pub roll_back-requires-clause-tx : goal.roll_back-requires-clause-tx
roll_back-requires-clause-tx c = subst (λ (u : Usage). IsNumber u.tx.0) (sym c.used_by.ensures) (subst IsNumber (sym c.in-Refused.ensures.tx) c.requires.tx)

pub returns-in-Refused : goal.returns-in-Refused
returns-in-Refused c =
    let p = c.args.plan in
    let r = c.in-Refused.reply in
    let e = c.roll_back.ensures in
    let same : (usage_of c.next.new.self).used.0 ≡ (usage_of p).used.0 = c.in-Refused.ensures.used ∙ used_refusal (usage_of p).used.0 r in
    refused c.args.self.now c.roll_back.new.self c.args.group (now_talks p) (usage_of p) c.used_by.result r
    (λ not. c.in-Refused.ensures.next ∙ ap (λ u. says (Err r, use_of u)) (sym c.used_by.ensures))
    (record {
      line = e.line;
      begun = e.begun;
      busy = e.busy;
      active = e.active;
      rolls = e.rolls;
      tx = ap (λ u. u.tx.0) c.used_by.ensures ∙ c.in-Refused.ensures.tx;
      nodes = subst (λ (x : _). Each (λ n. has_node (usage_of p).used.0 n ≡ true) (nodes_in x)) (sym (ap (λ u. u.used.0) c.used_by.ensures ∙ same)) (each_in (usage_of p).used.0);
    })
