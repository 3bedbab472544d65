use Rattle.hb_itemlaws.proofs.Naming.{closed_had_replies}
use Rattle.hb_itemlaws.proofs.laws.closed_had_replies.Goals as goal

pub returns : goal.returns
returns c = closed_had_replies
