-- The nodes of areas.
use Rattle.std.proofs.Common.{ℕ, ◌≤◌, arith}
use Rattle.std.proofs.lemmas.Bool.Decides.{nat_tests}
use Rattle.hb_types.specs.Places.{node_of_area}

-- nodes are counted from 1 on
pub first_node : (area : ℕ) → 1 ≤ node_of_area area
first_node area = grind (arith, nat_tests)
