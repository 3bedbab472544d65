-- Sets of nodes, computed.
use Rattle.std.proofs.Common.{◌≡◌, refl, [], ◌∷◌}
use Rattle.hb_model.specs.NodeSets.{with_node, nodes_in}

-- bes3, ds, and bes3 again
three_and_one : with_node (with_node (with_node 0 4) 1) 4 ≡ 18
three_and_one = refl

they_ascend : nodes_in 18 ≡ 1 ∷ 4 ∷ []
they_ascend = refl

first_and_last : nodes_in (with_node (with_node 0 10) 0) ≡ 0 ∷ 10 ∷ []
first_and_last = refl
