-- The nodes of a set, from one of them on.
use Rattle.std.specs.Prelude.{◌≡◌, ℕ, ◌-◌, List, [], ◌∷◌, filter, refl}
use Rattle.std.specs.List.{range_with_len}
use Rattle.hb_model.specs.NodeSets.{has_node, nodes_in}

-- the nodes of a set from this one on, ascending
abbrev pub nodes_from : ℕ → ℕ → List ℕ
nodes_from set from = filter (has_node set) (range_with_len from (11 - from))

nodes_from-all : (set : ℕ) → nodes_from set 0 ≡ nodes_in set
nodes_from-all set = refl

nodes_from-some : nodes_from 13 1 ≡ 2 ∷ 3 ∷ []
nodes_from-some = refl
