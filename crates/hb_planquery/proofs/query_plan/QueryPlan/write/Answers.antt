use Rattle.hb_planquery.proofs.Steps.{writes_begin, writes_replied, writes_refused}
use Rattle.hb_planquery.proofs.query_plan.QueryPlan.write.Goals as goal

pub returns-in-Writing-clause-writes : goal.returns-in-Writing-clause-writes
returns-in-Writing-clause-writes c =
    writes_begin c.args.self.now c.args.self.now _ c.usage-usage.result c.args.changes.items c.args.reply c.in-Writing.writing c.usage-usage.ensures c.enter.ensures
    c.in-Writing.ensures.0 c.in-Writing.ensures.1

pub returns-in-Replied-clause-writes : goal.returns-in-Replied-clause-writes
returns-in-Replied-clause-writes c =
    writes_replied c.args.self.now c.args.self.now _ c.usage-usage.result c.in-Replied.usage c.args.changes.items c.args.reply c.in-Replied.reply c.usage-usage.ensures
    c.enter-in-Replied.ensures c.in-Replied.ensures.0

pub returns-in-Refused-clause-writes : goal.returns-in-Refused-clause-writes
returns-in-Refused-clause-writes c =
    writes_refused c.args.self.now c.args.self.now _ c.usage-usage.result c.in-Refused.usage c.args.changes.items c.args.reply c.in-Refused.reply c.usage-usage.ensures
    c.enter-in-Refused.ensures c.in-Refused.ensures.0
