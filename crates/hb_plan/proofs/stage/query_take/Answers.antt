use Rattle.hb_plan.proofs.Parts.{query_hears, query_asks}
use Rattle.hb_plan.proofs.stage.query_take.Goals as goal

pub returns-clause-hears : goal.returns-clause-hears
returns-clause-hears c = λ told. query_hears c.args.plan.now c.take.new.self c.args.answer c.take.result c.of_a_query.result c.of_a_query.ensures (c.take.ensures.hears told)

pub returns-clause-asking : goal.returns-clause-asking
returns-clause-asking c = query_asks c.take.new.self c.take.result c.of_a_query.result c.of_a_query.ensures c.take.ensures.asking
