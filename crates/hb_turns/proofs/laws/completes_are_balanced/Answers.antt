use Rattle.hb_turns.proofs.Completing.{balanced_at_completes}
use Rattle.hb_turns.proofs.laws.completes_are_balanced.Goals as goal

pub returns : goal.returns
returns c =
    balanced_at_completes
    (record {
      ascend = c.transactions_ascend.ensures;
      grow = c.decisions_grow.ensures;
      stand = c.decision_stands.ensures;
      were_given = c.decided_were_given.ensures;
      news = c.given_are_new.ensures;
      decided = c.new_are_decided.ensures;
      servers = c.servers_ran.ensures;
      one = c.one_system.ensures;
      items = c.txns_have_items.ensures;
    }) c.check_tells.ensures
