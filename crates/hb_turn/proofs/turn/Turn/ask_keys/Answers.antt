use Rattle.std.proofs.Common.{ap, refl, subst}
use Rattle.hb_node.specs.Lists.{here, onward, OneMore}
use Rattle.hb_turn.specs.Turning.{in_transaction, Turning}
use Rattle.hb_types.specs.declared.answer.Answer.TheVariants as answer
use Rattle.hb_types.specs.declared.request.Request.TheVariants as request
use Rattle.hb_model.specs.Spots.{space_in}
use Rattle.hb_wait.specs.declared.pending.Pending.TheVariants as pending
use Rattle.hb_turn.proofs.Calls.{keys_call, no_keys_call}
use Rattle.hb_turn.proofs.turn.Turn.ask_keys.Goals as goal

pub returns-in-Keys-clause-stepped : goal.returns-in-Keys-clause-stepped
returns-in-Keys-clause-stepped g c =
    let t = c.args.self.now in
    let h = c.args.hint in
    let takes = c.take_keys.ensures in
    record {
      line = takes.line;
      leaves = takes.leaves;
      steps = (
        pending.Asks c.node_of-node.result (request.GroupKeys (space_in h.old h.table) h.group t.line.rows),
        answer.Keys c.in-Keys.keys,
        c.in-Keys.ensures.well_formed,
        subst (λ (x : Turning). OneMore (g.N.Nodes.lists c.args.nodes.now) (g.N.Nodes.lists c.ask.new.self) c.node_of-node.result.0 (request.GroupKeys (space_in h.old h.table) h.group x.line.rows) (answer.Keys c.in-Keys.keys))
            c.self.view_is c.in-Keys.ensures.one_more,
        keys_call t c.take_keys.new.self h c.node_of-node.result c.in-Keys.keys c.take_keys.result c.node_of-node.ensures takes,
      );
    }

pub returns-in_default-clause-stepped : goal.returns-in_default-clause-stepped
returns-in_default-clause-stepped g c =
    let t = c.args.self.now in
    let h = c.args.hint in
    record {
      line = refl;
      leaves = (c.requires.stage, tt);
      steps = (
        pending.Asks c.node_of-node.result (request.GroupKeys (space_in h.old h.table) h.group t.line.rows),
        c.ask.result,
        c.ask.ensures.well_formed,
        subst (λ (x : Turning). OneMore (g.N.Nodes.lists c.args.nodes.now) (g.N.Nodes.lists c.ask.new.self) c.node_of-node.result.0 (request.GroupKeys (space_in h.old h.table) h.group x.line.rows) c.ask.result)
            c.self.view_is c.ask.ensures.one_more,
        no_keys_call t h c.node_of-node.result c.ask.result c.refusal.result c.node_of-node.ensures c.in_default.not-Keys c.refusal.ensures (ap in_transaction c.requires.stage),
      );
    }

pub returns-in-Keys-clause-goes : goal.returns-in-Keys-clause-goes
returns-in-Keys-clause-goes g c = onward _ _ here c.ask.ensures.goes

pub returns-in_default-clause-goes : goal.returns-in_default-clause-goes
returns-in_default-clause-goes g c = onward _ _ here c.ask.ensures.goes
