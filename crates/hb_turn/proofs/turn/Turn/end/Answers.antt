use Rattle.std.proofs.Common.{◌≡◌, true, ap, refl, sym, ◌∙◌, subst}
use Rattle.hb_node.specs.Lists.{here, onward}
use Rattle.hb_types.specs.declared.request.Request.TheVariants as request
use Rattle.hb_wait.specs.declared.pending.Pending.TheVariants as pending
use Rattle.hb_turn.specs.Turning.{in_transaction, is_last, is_last_after, owner, replies, AreSitedAfter}
use Rattle.hb_turn.specs.Steps.{Makes, Stepped}
use Rattle.hb_turn.specs.declared.turn.Went.TheVariants as went
use Rattle.hb_turn.specs.declared.stage.Ending.{Ending}
use Rattle.hb_turn.specs.declared.stage.Stage.TheVariants as stage
use Rattle.hb_turn.proofs.Ends.{ends_with, end_asks, end_told, over_ends}
use Rattle.hb_turn.proofs.turn.Turn.end.Goals as goal

pub end_by-requires-clause-sited : goal.end_by-requires-clause-sited
end_by-requires-clause-sited g c = subst (λ (x : Ending). AreSitedAfter x.after) (sym (ap (λ x. record { usage = x.0; driver = x.1; after = x.2 }) c.parts-driver.ensures)) c.requires.sited

pub follow-requires : goal.follow-requires
follow-requires g c =
    record { sited = subst (λ (x : Ending). AreSitedAfter x.after) (sym (ap (λ x. record { usage = x.0; driver = x.1; after = x.2 }) c.parts-driver.ensures)) c.requires.sited }

pub returns-in-Ask-clause-stepped : goal.returns-in-Ask-clause-stepped
returns-in-Ask-clause-stepped g c =
    let r = c.parts-driver.result in
    let t = c.args.self.now in
    let e : Ending = record { usage = r.0; driver = r.1; after = r.2 } in
    let same : e ≡ c.args.ending = ap (λ x. record { usage = x.0; driver = x.1; after = x.2 }) c.parts-driver.ensures in
    let new = record t { stage = ends_with r.0 c.take.new.self r.2 } in
    let node = c.in-Ask.node in
    let q = c.in-Ask.request in
    let a = c.ask.result in
    let made : Makes (record t { stage = stage.Ends e }) new (pending.Asks node q) a went.More =
    end_asks t e c.next.new.self c.take.new.self node q a c.in-Ask.ensures.next.2 c.take.ensures.hears in
    subst (λ n. Stepped (record t { stage = stage.Ends c.args.ending }) n (g.N.Nodes.lists c.args.nodes.now) (g.N.Nodes.lists c.ask.new.self) went.More) (sym c.end_by.ensures)
    (record {
      line = refl;
      leaves = refl;
      steps = (
        pending.Asks node q,
        a,
        c.ask.ensures.well_formed,
        c.ask.ensures.one_more,
        subst (λ x. Makes (record t { stage = stage.Ends x }) new (pending.Asks node q) a went.More) same made,
      );
    })

pub returns-in-Ask-clause-last : goal.returns-in-Ask-clause-last
returns-in-Ask-clause-last g c =
    let r = c.parts-driver.result in
    let same = ap (λ (x : _). is_last_after x.2) c.parts-driver.ensures in
    λ is. subst (λ n. is_last n.stage ≡ true) (sym c.end_by.ensures) (same ∙ is)

pub returns-in-Ended-clause-stepped : goal.returns-in-Ended-clause-stepped
returns-in-Ended-clause-stepped g c =
    let r = c.parts-driver.result in
    let t = c.args.self.now in
    let e : Ending = record { usage = r.0; driver = r.1; after = r.2 } in
    let same : e ≡ c.args.ending = ap (λ x. record { usage = x.0; driver = x.1; after = x.2 }) c.parts-driver.ensures in
    let tx : e.driver.tx ≡ e.usage.tx = subst (λ (x : Ending). x.driver.tx ≡ x.usage.tx) (sym same) c.requires.ending.tx in
    let left = c.in-Ended.left in
    let how = c.in-Ended.outcome in
    let s = c.follow.result in
    let a = c.tell_end.ensures.told.0 in
    let p = pending.Asks (record { 0 = 10 }) (request.End r.0.tx left) in
    record {
      line = refl;
      leaves = (c.requires.stage, c.follow.ensures.sited);
      steps = (
        p,
        a,
        c.tell_end.ensures.told.1,
        c.tell_end.ensures.told.2,
        subst (λ x. Makes (record t { stage = stage.Ends x }) t p a (went.Said s)) same
            (end_told t e left how s a tx (c.in-Ended.ensures.next.2 (replies (owner t) r.2) r.0.locks r.0.bytes) c.follow.ensures.told (ap in_transaction c.requires.stage)),
      );
    }

pub returns-in-Ended-clause-last : goal.returns-in-Ended-clause-last
returns-in-Ended-clause-last g c =
    let same = ap (λ (x : _). is_last_after x.2) c.parts-driver.ensures in
    λ is. over_ends c.follow.result c.args.self.now.stage (c.follow.ensures.last (same ∙ is))

pub returns-in-Ask-clause-goes : goal.returns-in-Ask-clause-goes
returns-in-Ask-clause-goes g c = onward _ _ here c.ask.ensures.goes
