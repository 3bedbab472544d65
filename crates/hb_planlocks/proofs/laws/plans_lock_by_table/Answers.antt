use Rattle.hb_planlocks.proofs.AllLocks.{plans_lock}
use Rattle.hb_planlocks.proofs.laws.plans_lock_by_table.Goals as goal

pub returns : goal.returns
returns c = plans_lock
