use Rattle.hb_groups.proofs.Shares.{first-full, first-placed, first-even}
use Rattle.hb_groups.proofs.laws.first_entries_are_even.Goals as goal

pub returns-clause-full : goal.returns-clause-full
returns-clause-full c = first-full c.args.areas.now

pub returns-clause-placed : goal.returns-clause-placed
returns-clause-placed c = first-placed c.args.areas.now c.requires.some

pub returns-clause-even : goal.returns-clause-even
returns-clause-even c = λ i l. first-even c.args.areas.now i c.requires.some c.requires.few c.requires.distinct l
