use Rattle.hb_engine.proofs.Rungs.{rung_held}
use Rattle.hb_engine.proofs.climb.rung.Goals as goal

pub returns-in-Ok-Granted-clause-held : goal.returns-in-Ok-Granted-clause-held
returns-in-Ok-Granted-clause-held c =
    λ e. rung_held c.args.locks.now c.take.new.self c.args.tx c.args.path c.args.mode c.requires (rw c.in-Ok-Granted.field-0-is at c.in-Ok-Granted.ensures.says).1
