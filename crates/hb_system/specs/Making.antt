-- Stopped nodes over empty disks.
use Rattle.std.specs.Prelude.{◌≡◌, ℕ, ◌<◌, ◌≤◌, false, zero, suc, List, [], length, Option, Some, slice_index_or}
use Rattle.hb_edge.specs.Images.{Image}
use Rattle.hb_edge.specs.Stops.{Only}
use Rattle.hb_disks.specs.Redo.{nothing}
use Rattle.hb_runs.specs.Coordinator.{stopped_at}
use Rattle.hb_node.specs.Laws.{State, serving, deciding}
use Rattle.hb_reach.specs.Told.{Meanings}

-- the disk tells that it is empty, and a stop leaves it so
pub record IsFresh {D : Type 0} (content : D → Option Image) (left : D → ℕ → Image → Type 0) (last : D → ℕ) (d : D) : Type 0 where
  pub empty : content d ≡ Some []
  pub stays : Only (left d) (last d) []

-- the states that a system begins with: nothing was decided, and no row is there
abbrev pub front_origin : State
front_origin = deciding (stopped_at [])

abbrev pub server_origin : State
server_origin = serving (record { base = nothing; place = 0; log = []; live = []; up = false })

abbrev pub origin_of : ℕ → State
origin_of zero = front_origin
origin_of (suc n) = server_origin

-- the node of this number, stopped, before it was asked anything; where the premise holds, it is explained
pub record IsMade {N : Type 0} (premise : Type 0) (m : Meanings N) (moment name : ℕ) (node : N) : Type 0 where
  pub named : m.named node ≡ name
  pub none : m.trail node ≡ []
  pub explained : premise → m.explains node (origin_of name) []
  pub in_time : premise → m.last node ≤ moment

-- the disk is empty, a stop leaves it so, and the moment is not behind it
abbrev pub IsReadyAt : {D : Type 0} → (D → Option Image) → (D → ℕ → Image → Type 0) → (D → ℕ) → ℕ → D → Type 0
IsReadyAt content left last moment d = IsFresh content left last d × (last d ≤ moment)

-- the nodes stand by their numbers
abbrev pub AreMade : {N : Type 0} → Type 0 → Meanings N → ℕ → List N → Type 0
AreMade {N} premise m moment nodes = (k : ℕ) (d : N) → k < length nodes → IsMade premise m moment k (slice_index_or nodes k d)
