-- Known groups of keys, and the quotas of all areas of a table together.
use Rattle.std.specs.Prelude.{ℕ, ℤ, pos, negsuc, List, [], ◌∷◌, sum_by}
use Rattle.std.specs.List.{range_with_len}
use Rattle.hb_types.specs.Groups.{quota}

-- 0 to 9, 12, 16, 1601, -1, -1593, and the edges of INTEGER
abbrev pub vector_keys : List ℤ
vector_keys =
    pos 0 ∷ pos 1 ∷ pos 2 ∷ pos 3 ∷ pos 4 ∷ pos 5 ∷ pos 6 ∷ pos 7 ∷ pos 8 ∷ pos 9 ∷ pos 12 ∷ pos 16 ∷ pos 1601 ∷ negsuc 0 ∷ negsuc 1592 ∷ pos 2147483647
    ∷ negsuc 2147483647 ∷ []

abbrev pub vector_groups : List ℕ
vector_groups = 0 ∷ 632 ∷ 241 ∷ 874 ∷ 483 ∷ 92 ∷ 725 ∷ 334 ∷ 966 ∷ 575 ∷ 426 ∷ 909 ∷ 483 ∷ 391 ∷ 483 ∷ 903 ∷ 512 ∷ []

-- the quotas of so many areas, summed
abbrev pub quotas_in_all : ℕ → ℕ
quotas_in_all areas = sum_by (λ i. quota i areas) (range_with_len 0 areas)
