use Rattle.hb_lines.proofs.OneThing.{says_one}
use Rattle.hb_lines.proofs.laws.one_thing.Goals as goal

pub returns : goal.returns
returns c = says_one c.lines_say_one_thing.ensures
