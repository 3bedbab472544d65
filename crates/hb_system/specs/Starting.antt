-- The nodes of a system as they are started.
use Rattle.std.specs.Prelude.{◌≡◌, ℕ, ◌+◌, ◌*◌, ◌<◌, ◌≤◌, List, [], ◌∷◌, Some, map, slice_index_or}
use Rattle.hb_types.specs.declared.answer.Answer.TheVariants as answer
use Rattle.hb_types.specs.declared.request.Request.TheVariants as request
use Rattle.hb_types.specs.declared.names.Tx.{Tx}
use Rattle.hb_node.specs.Laws.{State, asked_of}
use Rattle.hb_node.specs.Lists.{asked}
use Rattle.hb_reach.specs.Goes.{IsLawful}
use Rattle.hb_reach.specs.Told.{Meanings, told_of}

-- this many disks: the log of the front end, and a log and an area of the dictionary server and of each of n back ends
abbrev pub IsDisksOf : ℕ → ℕ → Type 0
IsDisksOf n disks = (1 ≤ n) × (n ≤ 8) × (disks ≡ 3 + 2 * n)

-- A node that was started between two moments. If it was asked nothing before, then the Start is all that it was asked, and what
-- explained it does still.
pub record Starts {N : Type 0} (m : Meanings N) (from to : ℕ) (old new : N) : Type 0 where
  pub named : m.named new ≡ m.named old
  pub asked_once : m.trail old ≡ [] → (doubts : List Tx) × (asked_of (m.trail new) ≡ asked request.Start (answer.Started doubts) ∷ [])
  pub lawful : m.trail old ≡ [] → (origin : State) → m.explains old origin [] → m.last old ≤ from → IsLawful to origin (told_of m (Some new))

-- each of the first n
abbrev pub EachStarts : {N : Type 0} → Meanings N → ℕ → ℕ → ℕ → List N → List N → Type 0
EachStarts {N} m from to n old new = (k : ℕ) (d : N) → k < n → Starts m from to (slice_index_or old k d) (slice_index_or new k d)

-- the nodes of two lists have the same names
abbrev pub AreNamedAs : {N : Type 0} → (N → ℕ) → List N → List N → Type 0
AreNamedAs named old new = map named new ≡ map named old
