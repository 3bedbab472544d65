use Rattle.hb_lines.proofs.LineLemmas.{front_line}
use Rattle.hb_lines.proofs.laws.first_line.Goals as goal

pub returns : goal.returns
returns c = front_line
