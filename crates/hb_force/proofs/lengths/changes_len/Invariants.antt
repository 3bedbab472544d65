use Rattle.std.proofs.Common.{◌≡◌, ◌≤◌, take}
use Rattle.hb_force.proofs.Measuring.{changes_long}
use Rattle.hb_force.proofs.lengths.changes_len.Given as goal

abbrev pub invariant-loop-change : goal.invariant-loop-change
invariant-loop-change l = (l.len ≡ changes_long (take l.change-index l.changes)) × (l.len ≤ 8388608)
