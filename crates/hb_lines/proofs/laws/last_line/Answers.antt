use Rattle.hb_lines.proofs.LineLemmas.{only_line}
use Rattle.hb_lines.proofs.laws.last_line.Goals as goal

pub returns : goal.returns
returns c = only_line
