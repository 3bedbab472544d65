use Rattle.hb_sqlparse.proofs.PlainItems.{bytes_plain}
use Rattle.hb_sqlparse.proofs.laws.lines_are_plain.Goals as goal

pub returns : goal.returns
returns c = λ item line h. bytes_plain item line h (c.tokens_make_up_the_line.ensures line) (c.places_ascend_within_the_line.ensures.few line)
