use Rattle.hb_faithful.proofs.Telling.{plan_tells_undone}
use Rattle.hb_faithful.proofs.laws.plans_tell_undone.Goals as goal

pub returns : goal.returns
returns c = plan_tells_undone
