use Rattle.std.proofs.Common.{arith}
use Rattle.hb_system.proofs.opening.room.Goals as goal

pub returns-clause-nodes : goal.returns-clause-nodes
returns-clause-nodes g c = (
  omega (arith, c.in_ok-with_capacity.ensures.len),
  omega (arith, c.in_ok-with_capacity.ensures.capacity, c.len.ensures, c.in_ok-reserve.ensures.len, c.reserve.ensures.len, c.requires),
)
