use Rattle.std.proofs.Common.{◌≡◌, true, ap, refl, sym, ◌∙◌, subst, inl, Err, Ok}
use Rattle.hb_types.specs.Numbers.{IsNumber}
use Rattle.hb_talk.specs.Talk.{says}
use Rattle.hb_access.specs.Accesses.{use_of}
use Rattle.hb_access.specs.declared.usage.Usage.{Usage}
use Rattle.hb_access.proofs.Nodes.{among, still}
use Rattle.hb_model.specs.NodeSets.{has_node, nodes_in}
use Rattle.hb_types.specs.Lists.{Each}
use Rattle.hb_commit.specs.Driving.{AreBranches}
use Rattle.hb_moveplan.specs.MovePlans.{came_of, now_hears, now_talks, usage_of, IsTold}
use Rattle.hb_turn.specs.Turning.{IsUsed}
use Rattle.hb_turn.proofs.Calls.{carried_if, refused_if}
use Rattle.hb_turn.proofs.turn.Turn.take.Goals as goal

pub go_on-requires-clause-tx : goal.go_on-requires-clause-tx
go_on-requires-clause-tx c = subst IsNumber (sym c.in-More.ensures.tx) c.requires.asking.used.0

pub go_on-requires-clause-starts : goal.go_on-requires-clause-starts
go_on-requires-clause-starts c = inl (subst AreBranches (sym (still _ _ _ refl c.in-More.ensures.used)) c.requires.asking.used.1)

pub returns-in-More : goal.returns-in-More
returns-in-More c =
    let p = c.args.plan in
    carried_if (IsTold p c.args.answer) c.args.self.now c.go_on.new.self c.args.group (now_hears p c.args.answer) (now_talks c.take.new.self) (usage_of p) (usage_of c.take.new.self)
    c.go_on.result (λ told. (c.in-More.ensures.hears told).1) c.in-More.ensures.tx (still _ _ _ refl c.in-More.ensures.used) c.go_on.ensures

pub close-requires-clause-used : goal.close-requires-clause-used
close-requires-clause-used c =
    subst IsUsed (sym c.used_by.ensures)
    (subst IsNumber (sym c.in-Came.ensures.tx) c.requires.asking.used.0, subst AreBranches (sym (still _ _ _ refl c.in-Came.ensures.used)) c.requires.asking.used.1)

pub returns-in-Came : goal.returns-in-Came
returns-in-Came c =
    let p = c.args.plan in
    let f = c.in-Came.found in
    carried_if (IsTold p c.args.answer) c.args.self.now c.close.new.self c.args.group (now_hears p c.args.answer) (says (Ok (came_of f), use_of c.used_by.result)) (usage_of p) c.used_by.result
    c.close.result (λ told. c.in-Came.ensures.hears told ∙ ap (λ u. says (Ok (came_of f), use_of u)) (sym c.used_by.ensures))
    (ap (λ u. u.tx.0) c.used_by.ensures ∙ c.in-Came.ensures.tx) (ap (λ u. u.used.0) c.used_by.ensures ∙ still _ _ _ refl c.in-Came.ensures.used) c.close.ensures

pub roll_back-requires-clause-tx : goal.roll_back-requires-clause-tx
roll_back-requires-clause-tx c = subst (λ (u : Usage). IsNumber u.tx.0) (sym c.used_by-in-Refused.ensures) (subst IsNumber (sym c.in-Refused.ensures.tx) c.requires.asking.used.0)

pub returns-in-Refused : goal.returns-in-Refused
returns-in-Refused c =
    let p = c.args.plan in
    let r = c.in-Refused.reply in
    let v = c.used_by-in-Refused.result in
    let e = c.roll_back.ensures in
    refused_if (IsTold p c.args.answer) c.args.self.now c.roll_back.new.self c.args.group (now_hears p c.args.answer) (usage_of p) v r
    (λ told not. c.in-Refused.ensures.hears told not ∙ ap (λ u. says (Err r, use_of u)) (sym c.used_by-in-Refused.ensures))
    (record {
      line = e.line;
      begun = e.begun;
      busy = e.busy;
      active = e.active;
      rolls = e.rolls;
      tx = ap (λ u. u.tx.0) c.used_by-in-Refused.ensures ∙ c.in-Refused.ensures.tx;
      nodes = subst (λ (u : Usage). Each (λ n. has_node (usage_of p).used.0 n ≡ true) (nodes_in u.used.0)) (sym c.used_by-in-Refused.ensures) (among _ _ _ c.in-Refused.ensures.used);
    })
