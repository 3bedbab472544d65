use Rattle.hb_movelaws.proofs.Batching.{batch_moves as moves}
use Rattle.hb_movelaws.proofs.laws.batch_moves.Goals as goal

pub returns : goal.returns
returns c = moves
