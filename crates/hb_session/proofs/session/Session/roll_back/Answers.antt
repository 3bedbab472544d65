use Rattle.hb_session.proofs.Ends.{rolls}
use Rattle.hb_session.proofs.session.Session.roll_back.Goals as goal

pub returns-clause-rolls : goal.returns-clause-rolls
returns-clause-rolls c = λ sts. rolls _ c.args.usage c.back-driver.result c.back-driver.ensures.of.0 c.back-driver.ensures.of.1 c.back-driver.ensures.talk
