use Rattle.hb_session.proofs.Begins.{planned_of}
use Rattle.hb_session.proofs.session.Session.give.Goals as goal

pub give_first-requires-clause-given : goal.give_first-requires-clause-given
give_first-requires-clause-given c = (planned_of c.args.statement c.args.self.now.stage c.in-First.ensures c.requires.planned, c.requires.plain)
