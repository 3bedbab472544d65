use Rattle.hb_checks.proofs.Checks.{were_steps}
use Rattle.hb_checks.proofs.laws.checks_were_steps.Goals as goal

pub returns : goal.returns
returns c =
    λ tell. were_steps
    (record {
      ascend = c.transactions_ascend.ensures;
      grow = c.decisions_grow.ensures;
      stand = c.decision_stands.ensures;
      were_given = c.decided_were_given.ensures;
      news = c.given_are_new.ensures;
      decided = c.new_are_decided.ensures;
      servers = c.servers_ran.ensures;
      one = c.one_system.ensures;
      items = c.txns_have_items.ensures;
    }) c.chains_keep_numbers.ensures tell
