use Rattle.hb_planwrites.proofs.SelectRows.{select_rightly}
use Rattle.hb_planwrites.proofs.laws.select_does.Goals as goal

pub returns : goal.returns
returns c = select_rightly
