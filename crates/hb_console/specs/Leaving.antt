-- What a run leaves on the disks of its system, which stand in the order fes1.log, ds.log, ds.area, bes1.log, bes1.area and so on.
use Rattle.std.specs.Prelude.{◌≡◌, ℕ, ◌+◌, ◌<◌, ◌≤◌, All, List, [], ◌∷◌, length, slice_index_or, Option, Some, ⊤}
use Rattle.hb_edge.specs.Images.{Image}
use Rattle.hb_node.specs.Laws.{Explains}
use Rattle.hb_node.specs.Lists.{Lists}
use Rattle.hb_reach.specs.Goes.{IsLawful}
use Rattle.hb_reach.specs.Told.{Meanings, told_of}
use Rattle.hb_system.specs.Making.{front_origin, origin_of, server_origin}
use Rattle.hb_system.specs.Opening.{IsTold}

-- each node is what its list makes of the state that it began with, and so is whatever a stop leaves of it from a moment on
abbrev pub AreLawful : {N : Type 0} → Meanings N → ℕ → List N → Type 0
AreLawful {N} m moment nodes = (k : ℕ) (d : N) → k < length nodes → IsLawful moment (origin_of k) (told_of m (Some (slice_index_or nodes k d)))

-- whatever a stop leaves, from a moment on, on the disks of the servers from a number on is what the list of each makes of an empty log
abbrev pub ServersLeft : {D : Type 0} → (D → ℕ → Image → Type 0) → ℕ → Lists → ℕ → List D → Type 0
ServersLeft left moment lists k [] = ⊤
ServersLeft left moment lists k (log ∷ area ∷ disks) =
    ((m : ℕ) (in_log in_area : Image) → moment ≤ m → left log m in_log → left area m in_area → Explains server_origin (lists k) in_log)
    × ServersLeft left moment lists (k + 1) disks
ServersLeft left moment lists k (log ∷ []) = ⊥

-- and on the disk of the front end
abbrev pub SystemLeft : {D : Type 0} → (D → ℕ → Image → Type 0) → ℕ → Lists → List D → Type 0
SystemLeft left moment lists [] = ⊥
SystemLeft left moment lists (log ∷ disks) =
    ((m : ℕ) (in_log : Image) → moment ≤ m → left log m in_log → Explains front_origin (lists 0) in_log) × ServersLeft left moment lists 1 disks

-- where the disks told their content when they were handed over, at a moment that was not behind them
abbrev pub DisksLeft : {D : Type 0} → (D → Option Image) → (D → ℕ → Image → Type 0) → (D → ℕ) → ℕ → ℕ → List D → List D → Lists → Type 0
DisksLeft content left last from to old new lists = All (IsTold content last from) old → SystemLeft left to lists new
