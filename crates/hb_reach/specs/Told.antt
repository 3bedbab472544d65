-- What is told of several nodes at one moment: of each by its number, and of the manager, which is number 10.
use Rattle.std.specs.Prelude.{ℕ, ◌==◌, Bool, true, false, List, [], length, Option, Some, None, slice_get, ⊤}
use Rattle.hb_edge.specs.Images.{Image}
use Rattle.hb_types.specs.declared.answer.Answer.{Answer}
use Rattle.hb_types.specs.declared.answer.Answer.TheVariants as answer
use Rattle.hb_types.specs.declared.request.Request.{Request}
use Rattle.hb_types.specs.declared.request.Request.TheVariants as request
use Rattle.hb_types.specs.declared.trail.TrailEntry.{TrailEntry}
use Rattle.hb_runs.specs.ServerRuns.{Asked}
use Rattle.hb_node.specs.Laws.{State, asked_of}

-- the meanings of a type of nodes
pub record Meanings (N : Type 0) : Type 1 where
  pub named : N → ℕ
  pub trail : N → List TrailEntry
  pub explains : N → State → List Asked → Type 0
  pub leaves : N → ℕ → Image → Image → Type 0
  pub last : N → ℕ

abbrev pub meanings : {N : Type 0} → (N → ℕ) → (N → List TrailEntry) → (N → State → List Asked → Type 0) → (N → ℕ → Image → Image → Type 0) → (N → ℕ) → Meanings N
meanings named trail explains leaves last = record { named = named; trail = trail; explains = explains; leaves = leaves; last = last }

-- what is told of one node: its name, what it was asked and answered, the states that explain it with this list, which images a stop
-- at each moment may leave on its log and its area disk, and the last moment of these
pub record Told : Type 1 where
  pub named : Option ℕ
  pub list : List Asked
  pub explains : State → Type 0
  pub leaves : ℕ → Image → Image → Type 0
  pub last : ℕ

-- of a node that isn't there nothing was asked, and nothing is left
abbrev pub told_of : {N : Type 0} → Meanings N → Option N → Told
told_of m None = record { named = None; list = []; explains = λ _. ⊤; leaves = λ _ _ _. ⊥; last = 0 }
told_of m (Some n) = record { named = Some (m.named n); list = asked_of (m.trail n); explains = λ origin. m.explains n origin (asked_of (m.trail n)); leaves = m.leaves n; last = m.last n }

-- what is told of the nodes by number, how many they are but for the manager, and the moment
pub record Seen : Type 1 where
  pub node : ℕ → Told
  pub count : ℕ
  pub moment : ℕ

abbrev pub mgr : ℕ
mgr = 10

abbrev pub is_stop : Request → Bool
is_stop request.Stop = true
is_stop _ = false

-- an answer tells that its node has stopped: a fault, or that a Stop is done
abbrev pub has_stopped : Bool → Answer → Bool
has_stopped stop (answer.Fault area) = true
has_stopped stop answer.Done = stop
has_stopped stop _ = false

-- a node by its place in a list, or the manager
abbrev pub told_at : {N M : Type 0} → Meanings N → Meanings M → List N → M → ℕ → Bool → Told
told_at n m nodes manager name true = told_of m (Some manager)
told_at n m nodes manager name false = told_of n (slice_get nodes name)

abbrev pub seen : {N M : Type 0} → Meanings N → Meanings M → List N → M → ℕ → Seen
seen n m nodes manager moment = record { node = λ name. told_at n m nodes manager name (name == mgr); count = length nodes; moment = moment }
