use Rattle.hb_faithful.proofs.Telling.{plan_replies}
use Rattle.hb_faithful.proofs.laws.plans_reply.Goals as goal

pub returns : goal.returns
returns c = plan_replies
