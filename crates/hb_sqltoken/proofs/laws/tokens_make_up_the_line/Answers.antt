use Rattle.hb_sqltoken.proofs.Making.{line_made}
use Rattle.hb_sqltoken.proofs.laws.tokens_make_up_the_line.Goals as goal

pub returns : goal.returns
returns c = line_made
