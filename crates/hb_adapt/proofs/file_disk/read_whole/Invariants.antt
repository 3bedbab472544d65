use Rattle.std.proofs.Common.{length, ◌-◌, ◌≤◌}
use Rattle.hb_adapt.proofs.file_disk.read_whole.Given as goal

abbrev pub invariant-piece : goal.invariant-piece
invariant-piece l = l.done ≤ length l.into

abbrev pub decreases-piece : goal.decreases-piece
decreases-piece l = length l.into - l.done
