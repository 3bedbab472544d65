use Rattle.hb_node.specs.Lists.{here, onward}
use Rattle.hb_turn.proofs.ending.tell_end.Goals as goal

pub returns-clause-goes : goal.returns-clause-goes
returns-clause-goes g c = onward _ _ here c.ask.ensures.goes
