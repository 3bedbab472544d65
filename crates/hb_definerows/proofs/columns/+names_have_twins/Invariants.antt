use Rattle.std.proofs.Common.{length}
use Rattle.hb_definerows.proofs.columns.+names_have_twins.Given as goal

abbrev pub decreases-names_have_twins : goal.decreases-names_have_twins
decreases-names_have_twins l = length l.names.now
