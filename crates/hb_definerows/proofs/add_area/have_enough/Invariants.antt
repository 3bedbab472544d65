use Rattle.std.proofs.Common.{◌≡◌, ◌<◌, ℕ, true}
use Rattle.hb_definerows.specs.DefineRows.{has_enough}
use Rattle.hb_definerows.proofs.add_area.have_enough.Given as goal

abbrev pub invariant-loop-nth : goal.invariant-loop-nth
invariant-loop-nth l = (k : ℕ) → k < l.nth → has_enough l.members l.entries k ≡ true
