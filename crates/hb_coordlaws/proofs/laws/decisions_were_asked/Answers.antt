use Rattle.hb_coordlaws.proofs.Asking.{decisions_were_asked as holds}
use Rattle.hb_coordlaws.proofs.laws.decisions_were_asked.Goals as goal

pub returns : goal.returns
returns c = holds
