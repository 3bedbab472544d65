use Rattle.hb_sqlparse.proofs.Places.{one_line}
use Rattle.hb_sqlparse.proofs.laws.lines_say_one_thing.Goals as goal

pub returns : goal.returns
returns c = one_line c.lines_are_read.ensures
