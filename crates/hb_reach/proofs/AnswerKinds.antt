-- What the lists of nodes that runs explain hold.
use Rattle.std.proofs.Common.{◌≡◌, ℕ, ◌==◌, Bool, true, false, List, ap, subst, unwrap_or}
use Rattle.std.specs.Prelude.{Option, Some, None, slice_get}
use Rattle.hb_runs.specs.ServerRuns.{Asked}
use Rattle.hb_node.specs.Laws.{State, IsOfName, Runs, asked_of}
use Rattle.hb_node.specs.Lists.{AreOfNode}
use Rattle.hb_node.proofs.AnswerKinds.{explained_kinds}
use Rattle.hb_reach.specs.Told.{Meanings, told_of, told_at, seen, mgr}

-- what explains a node is a run
abbrev Explained : {N : Type 0} → Meanings N → Type 0
Explained {N} n = (node : N) (origin : State) (asked : List Asked) → n.explains node origin asked → IsOfName (n.named node) origin × ((t : State) × Runs origin asked t)

node_kinds : {N : Type 0} (n : Meanings N) → Explained n → (node : Option N) (name : ℕ) (origin : State) → (told_of n node).named ≡ Some name → (told_of n node).explains origin → AreOfNode name (told_of n node).list
node_kinds n law None name origin named explains = tt
node_kinds n law (Some node) name origin named explains =
    let P : ℕ → Type 0 = λ k. AreOfNode k (asked_of (n.trail node)) in
    subst P (ap (λ (o : Option ℕ). unwrap_or o 0) named) (explained_kinds (n.named node) origin (asked_of (n.trail node)) (law node origin (asked_of (n.trail node)) explains))

pub list_kinds : {N M : Type 0} (n : Meanings N) (m : Meanings M) → Explained n → Explained m → (nodes : List N) (manager : M) (moment name : ℕ) (origin : State)
    → ((seen n m nodes manager moment).node name).named ≡ Some name → ((seen n m nodes manager moment).node name).explains origin → AreOfNode name ((seen n m nodes manager moment).node name).list
list_kinds n m n_law m_law nodes manager moment name origin = by_name (name == mgr)
  where
    by_name : (b : Bool) → (told_at n m nodes manager name b).named ≡ Some name → (told_at n m nodes manager name b).explains origin → AreOfNode name (told_at n m nodes manager name b).list
    by_name true = node_kinds m m_law (Some manager) name origin
    by_name false = node_kinds n n_law (slice_get nodes name) name origin
