use Rattle.std.proofs.Common.{arith}
use Rattle.hb_board.proofs.laws.no_cycle_at_first.Goals as goal

pub returns : goal.returns
returns c = λ has. absurd (omega (arith, has.1.1))
