use Rattle.hb_acts.proofs.PutTexts.{puts_part}
use Rattle.hb_acts.proofs.putting.put.Goals as goal

pub returns-in-Err-clause-part : goal.returns-in-Err-clause-part
returns-in-Err-clause-part g c = puts_part _ _ _ (rw c.in-Err.is at c.put.ensures.part)
