use Rattle.hb_requests.proofs.Refusing.{prepare_absent}
use Rattle.hb_requests.proofs.refusals.prepare.Goals as goal

pub returns-in-Absent-clause-turns : goal.returns-in-Absent-clause-turns
returns-in-Absent-clause-turns c = prepare_absent c.args.engine.now c.args.tx c.in-Absent.ensures
