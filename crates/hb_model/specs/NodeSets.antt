-- Sets of nodes as numbers: bit i stands for node i.
use Rattle.std.specs.Prelude.{ℕ, ◌+◌, ◌/◌, ◌%◌, ◌^◌, ◌==◌, Bool, if◌then◌else◌, List, filter}
use Rattle.std.specs.List.{range_with_len}

abbrev pub has_node : ℕ → ℕ → Bool
has_node set n = set / 2 ^ n % 2 == 1

abbrev pub with_node : ℕ → ℕ → ℕ
with_node set n = if has_node set n then set else set + 2 ^ n

-- the nodes of a set, ascending, from fes1 to mgr
abbrev pub nodes_in : ℕ → List ℕ
nodes_in set = filter (has_node set) (range_with_len 0 11)
