-- What is said of a node by its kind.
use Rattle.std.specs.Prelude.{ℕ, List}
use Rattle.hb_node.specs.Laws.{State, IsOfName, Runs}
use Rattle.hb_runs.specs.ServerRuns.{Asked}
use Rattle.hb_system.specs.declared.node.SystemNode.{SystemNode}
use Rattle.hb_system.specs.declared.node.SystemNode.TheVariants.{Front, Server}

-- the one meaning of a front end, the other of a server
abbrev pub of_kind {ℓ} : {F S : Type 0} {A : Type ℓ} → (F → A) → (S → A) → SystemNode F S → A
of_kind front server (Front f) = front f
of_kind front server (Server s) = server s

-- what explains a node of either kind is a run
pub explained_of : {F S : Type 0} (f_named : F → ℕ) (s_named : S → ℕ) (f : F → State → List Asked → Type 0) (s : S → State → List Asked → Type 0)
    → ((node : F) (origin : State) (asked : List Asked) → f node origin asked → IsOfName (f_named node) origin × ((t : State) × Runs origin asked t))
    → ((node : S) (origin : State) (asked : List Asked) → s node origin asked → IsOfName (s_named node) origin × ((t : State) × Runs origin asked t))
    → (node : SystemNode F S) (origin : State) (asked : List Asked) → of_kind f s node origin asked → IsOfName (of_kind f_named s_named node) origin × ((t : State) × Runs origin asked t)
explained_of f_named s_named f s front server (Front node) = front node
explained_of f_named s_named f s front server (Server node) = server node
