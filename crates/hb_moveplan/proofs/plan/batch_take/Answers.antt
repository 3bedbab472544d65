use Rattle.hb_moveplan.proofs.Steps.{batch_asks, batch_hears, batch_rolls, batch_sited}
use Rattle.hb_moveplan.proofs.plan.batch_take.Goals as goal

pub returns-clause-hears : goal.returns-clause-hears
returns-clause-hears c = λ told. batch_hears c.args.plan.now c.take.new.self c.args.answer c.take.result c.batch_taken.result c.batch_taken.ensures (c.take.ensures.hears told)

pub returns-clause-asking : goal.returns-clause-asking
returns-clause-asking c = batch_asks c.take.new.self c.take.result c.batch_taken.result c.batch_taken.ensures c.take.ensures.asking

pub returns-clause-used : goal.returns-clause-used
returns-clause-used c = batch_rolls c.args.plan.now c.take.new.self c.take.result c.batch_taken.result c.batch_taken.ensures c.take.ensures.used

pub returns-clause-sited : goal.returns-clause-sited
returns-clause-sited c = batch_sited c.take.result c.batch_taken.result c.batch_taken.ensures
