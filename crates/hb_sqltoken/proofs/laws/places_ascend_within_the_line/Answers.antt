use Rattle.hb_sqltoken.proofs.Making.{line_ascends, line_within, line_few}
use Rattle.hb_sqltoken.proofs.laws.places_ascend_within_the_line.Goals as goal

pub returns : goal.returns
returns c = record { ascend = line_ascends; within = line_within; few = line_few }
