-- The names of nodes.
use Rattle.std.specs.Prelude.{◌≡◌, ℕ, ◌<◌, List, length, slice_index_or}

-- each node stands at its number
abbrev pub AreNumbered : {N : Type 0} → (N → ℕ) → List N → Type 0
AreNumbered {N} named nodes = (k : ℕ) (d : N) → k < length nodes → named (slice_index_or nodes k d) ≡ k
