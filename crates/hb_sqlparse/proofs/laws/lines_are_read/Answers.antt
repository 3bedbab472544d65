use Rattle.hb_sqlparse.proofs.LineReads.{reads_lines}
use Rattle.hb_sqlparse.proofs.laws.lines_are_read.Goals as goal

pub returns : goal.returns
returns c = reads_lines c.expressions_are_read.ensures c.conditions_are_read.ensures
