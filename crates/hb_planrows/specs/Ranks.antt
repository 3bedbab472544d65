-- Rows by their ranks: by key, then in the order in which they came.
use Rattle.std.specs.Prelude.{◌≡◌, ℕ, ◌<◌, List, map}
use Rattle.std.specs.Ordering.{int_cmp, nat_cmp, ordering_then}
use Rattle.std.specs.declared.cmp.Ordering.{Ordering}
use Rattle.hb_types.specs.Lists.{Each}
use Rattle.hb_talk.specs.Plans.{Lying}
use Rattle.hb_planrows.specs.declared.ranks.Rank.{Rank}

abbrev pub rank_cmp : Rank → Rank → Ordering
rank_cmp a b = ordering_then (int_cmp a.key b.key) (nat_cmp a.nth b.nth)

-- each row has the rank of its key, and so many came
abbrev pub AreRanked : ℕ → List (Rank × Lying) → Type 0
AreRanked n entries = Each (λ e. (e.0.key ≡ e.1.0.key) × (e.0.nth < n)) entries

abbrev pub ranked_rows : List (Rank × Lying) → List Lying
ranked_rows entries = map (λ e. e.1) entries
