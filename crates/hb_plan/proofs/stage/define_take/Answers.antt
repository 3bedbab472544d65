use Rattle.hb_plan.proofs.Parts.{define_hears, define_asks}
use Rattle.hb_plan.proofs.stage.define_take.Goals as goal

pub returns-clause-hears : goal.returns-clause-hears
returns-clause-hears c = λ told.
    define_hears c.args.plan.now c.take.new.self c.args.answer c.take.result c.of_a_define.result c.of_a_define.ensures c.take.ensures.more (c.take.ensures.hears told)

pub returns-clause-asking : goal.returns-clause-asking
returns-clause-asking c = define_asks c.take.new.self c.take.result c.of_a_define.result c.of_a_define.ensures c.take.ensures.more
