use Rattle.hb_reading.proofs.Steps.{begins}
use Rattle.hb_reading.proofs.reading.Reading.begin.Goals as goal

pub returns-clause-talk : goal.returns-clause-talk
returns-clause-talk c = begins _ _ _ _ c.lock.result c.first.ensures c.lock.ensures.talk
