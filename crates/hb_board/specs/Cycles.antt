-- That no transactions wait for each other.
use Rattle.std.specs.Prelude.{◌≡◌, ◌≢◌, ℕ, List, [], ◌∷◌, All, Contains, ⊤}
use Rattle.hb_types.specs.declared.answer.Answer.{Answer}
use Rattle.hb_types.specs.declared.answer.Answer.TheVariants as answer
use Rattle.hb_types.specs.declared.answer.Edge.{Edge}
use Rattle.hb_types.specs.declared.request.Request.{Request}
use Rattle.hb_types.specs.declared.request.Request.TheVariants as request
use Rattle.hb_runs.specs.Board.{Board, Reaches, live_edges, edges_of, keeping}
use Rattle.hb_runs.specs.Chains.{IsChain}

-- a kept edge to a live holder, from which its own waiter is reached along such edges
abbrev pub HasCycle : Board → Type 0
HasCycle b = (e : Edge) × Contains (live_edges b) e × Reaches b e.waiter.0 e

abbrev pub HasNoCycle : Board → Type 0
HasNoCycle b = ¬ (HasCycle b)

abbrev pub last_holder : Edge → List Edge → ℕ
last_holder e [] = e.holder.0
last_holder e (f ∷ fs) = last_holder f fs

-- edges one behind another, from the transaction back to it; all but the first are kept, to live holders
abbrev pub LeadsBack : Board → ℕ → List Edge → Type 0
LeadsBack b tx [] = ⊥
LeadsBack b tx (e ∷ es) = (e.waiter.0 ≡ tx) × IsChain (e ∷ es) × (last_holder e es ≡ tx) × All (Contains (live_edges b)) es

-- A wait is answered a cycle exactly where its edges, kept, would close one; nobody is waited for exactly where it has no edge.
abbrev pub IsExact : Board → Request → Answer → Type 0
IsExact b (request.Wait tx node path wanted holders) a = judged a
  where
    judged : Answer → Type 0
    judged (answer.Cycle es) = HasCycle (keeping b tx (edges_of b tx node path wanted holders)) × LeadsBack b tx.0 es
    judged (answer.Waiting es) = HasNoCycle (keeping b tx (edges_of b tx node path wanted holders)) × (es ≡ edges_of b tx node path wanted holders) × (es ≢ [])
    judged answer.Gone = edges_of b tx node path wanted holders ≡ []
    judged _ = ⊤
IsExact b _ a = ⊤
