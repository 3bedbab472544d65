use Rattle.std.proofs.Common.{length}
use Rattle.hb_definerows.proofs.add_area.+have_twins.Given as goal

abbrev pub decreases-have_twins : goal.decreases-have_twins
decreases-have_twins l = length l.members.now
