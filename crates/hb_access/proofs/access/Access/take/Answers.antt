use Rattle.std.proofs.Common.{ap}
use Rattle.hb_access.proofs.Nodes.{stays}
use Rattle.hb_access.proofs.access.Access.take.Goals as goal

pub returns-in-Locking-clause-used : goal.returns-in-Locking-clause-used
returns-in-Locking-clause-used c = stays _ _ _ c.take_lock.ensures.used

pub returns-in-Fetching-clause-used : goal.returns-in-Fetching-clause-used
returns-in-Fetching-clause-used c = stays _ _ _ c.take_found.ensures.used

pub returns-in-Writing-clause-used : goal.returns-in-Writing-clause-used
returns-in-Writing-clause-used c = stays _ _ _ c.take_write.ensures.used
