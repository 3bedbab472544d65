-- What is so of each node by itself from one moment to a later one, whatever was asked of it between.
use Rattle.std.specs.Prelude.{◌≡◌, ◌⊎◌, ℕ, ◌≤◌, ◌<◌, true, IsTrue, List, [], ◌∷◌, ◌++◌}
use Rattle.hb_edge.specs.Images.{Image}
use Rattle.hb_types.specs.declared.answer.Answer.{Answer}
use Rattle.hb_types.specs.declared.names.NodeName.{NodeName}
use Rattle.hb_types.specs.declared.request.Request.TheVariants as request
use Rattle.hb_types.specs.declared.trail.TrailEntry.{TrailEntry}
use Rattle.hb_types.specs.Calls.{may_pass}
use Rattle.hb_runs.specs.Kinds.{tells_nothing}
use Rattle.hb_runs.specs.ServerRuns.{Asked}
use Rattle.hb_node.specs.Laws.{State, Explains, asked_in, entry_of}
use Rattle.hb_reach.specs.Told.{Told, Seen}

-- from a moment on, which no call of its disks is behind, whatever a stop leaves of the node is what its list makes of this state
pub record IsLawful (moment : ℕ) (origin : State) (node : Told) : Type 0 where
  pub explained : node.explains origin
  pub in_time : node.last ≤ moment
  pub images : (m : ℕ) (log area : Image) → moment ≤ m → node.leaves m log area → Explains origin node.list log

-- The log image is what a list between the shorter and the longer one makes of the state, perhaps with one more call that lists may
-- leave out.
pub record MadeBetween (origin : State) (shorter longer : List Asked) (log : Image) : Type 0 where
  pub more : List Asked
  pub rest : List Asked
  pub parts : longer ≡ shorter ++ more ++ rest
  pub made : Explains origin (shorter ++ more) log ⊎ ((a : Asked) × (may_pass a.request a.answer ≡ true) × Explains origin (shorter ++ more ++ a ∷ []) log)

-- one node between two moments
pub record NodeGoes (from to : ℕ) (old new : Told) : Type 0 where
  pub named : new.named ≡ old.named
  pub longer : (more : List Asked) × (new.list ≡ old.list ++ more)
  pub law : (origin : State) → IsLawful from origin old → IsLawful to origin new
  pub images : (origin : State) → IsLawful from origin old → (m : ℕ) (log area : Image) → from ≤ m → new.leaves m log area → MadeBetween origin old.list new.list log
  pub before : (origin : State) → IsLawful from origin old → (m : ℕ) (log area : Image) → m < from → new.leaves m log area → old.leaves m log area

-- all of them, as many as before
pub record Goes (old new : Seen) : Type 0 where
  pub clock : old.moment ≤ new.moment
  pub count : new.count ≡ old.count
  pub each : (name : ℕ) → NodeGoes old.moment new.moment (old.node name) (new.node name)

-- one node that answered a call, by its own contract
pub record Answered (e : TrailEntry) (old new : Told) : Type 0 where
  pub named : new.named ≡ old.named
  pub entered : (new.list ≡ old.list ++ asked_in e ∷ []) ⊎ ((may_pass e.request e.answer ≡ true) × (new.list ≡ old.list))
  pub told : IsTrue (tells_nothing e.answer) ⊎ (new.list ≡ old.list ++ asked_in e ∷ [])
  pub in_time : old.last ≤ e.from → new.last ≤ e.to
  pub law : (origin : State) → old.explains origin → old.last ≤ e.from → new.explains origin
  pub within : (origin : State) → old.explains origin → old.last ≤ e.from → (m : ℕ) (log area : Image) → e.from ≤ m → new.leaves m log area
      → Explains origin old.list log ⊎ Explains origin (old.list ++ asked_in e ∷ []) log
  pub after : (origin : State) → old.explains origin → old.last ≤ e.from → (m : ℕ) (log area : Image) → e.to ≤ m → new.leaves m log area → Explains origin new.list log
  pub before : (origin : State) → old.explains origin → old.last ≤ e.from → (m : ℕ) (log area : Image) → m < e.from → new.leaves m log area → old.leaves m log area

-- the manager was told that a node has stopped
abbrev pub HearsOf : NodeName → Told → Told → Type 0
HearsOf node old new = (a : Answer) × (from to : ℕ) × Answered (entry_of (request.Halted node) a from to) old new
