use Rattle.hb_coordlaws.proofs.Ascents.{transactions_ascend as holds}
use Rattle.hb_coordlaws.proofs.laws.transactions_ascend.Goals as goal

pub returns : goal.returns
returns c = holds
