use Rattle.std.proofs.Common.{length}
use Rattle.hb_planrows.proofs.entries.+below.Given as goal

abbrev pub decreases-below : goal.decreases-below
decreases-below l = length l.areas.now
