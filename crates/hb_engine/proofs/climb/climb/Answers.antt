use Rattle.hb_engine.proofs.Rungs.{key_done}
use Rattle.hb_engine.proofs.climb.climb.Goals as goal

pub returns-in-Done : goal.returns-in-Done
returns-in-Done c =
    key_done c.args.tx c.in-Key.place c.args.path c.args.mode c.intention.result c.args.locks.now c.climb_group-in-Key.new.locks c.rung.new.locks c.rung.result
    c.in-Key.is c.intention.ensures c.in-Done.ensures.says c.rung.ensures.says
