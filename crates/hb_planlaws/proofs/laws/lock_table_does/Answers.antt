use Rattle.hb_planlaws.proofs.LockPlan.{lock_table_rightly}
use Rattle.hb_planlaws.proofs.laws.lock_table_does.Goals as goal

pub returns : goal.returns
returns c = lock_table_rightly
