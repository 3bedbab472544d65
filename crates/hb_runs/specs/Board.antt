-- The manager as its trail tells it: who waits for whom, and who has ended.
use Rattle.std.specs.Prelude.{◌≡◌, ◌≢◌, ℕ, ◌==◌, Bool, true, false, not, ◌&&◌, IsTrue, if◌then◌else◌, List, [], ◌∷◌, ◌++◌, map, filter, filter_map, find, Contains, All, Option, Some, None, option_map}
use Rattle.std.specs.List.{list_any}
use Rattle.hb_types.specs.declared.lock.Holder.{Holder}
use Rattle.hb_types.specs.declared.lock.Mode.{Mode}
use Rattle.hb_types.specs.declared.names.NodeName.{NodeName}
use Rattle.hb_types.specs.declared.names.Owner.{Owner}
use Rattle.hb_types.specs.declared.names.Tx.{Tx}
use Rattle.hb_types.specs.declared.places.Path.{Path}
use Rattle.hb_types.specs.declared.answer.Answer.{Answer}
use Rattle.hb_types.specs.declared.answer.Answer.TheVariants as answer
use Rattle.hb_types.specs.declared.answer.Edge.{Edge}
use Rattle.hb_types.specs.declared.request.Request.{Request}
use Rattle.hb_types.specs.declared.request.Request.TheVariants as request
use Rattle.hb_runs.specs.Chains.{IsChain}
use Rattle.hb_model.specs.NodeSets.{nodes_in}

-- transactions entered with their owners; those whose End came; where a branch is left or was settled; and the kept edges
pub record Board : Type 0 where
  pub entered : List (ℕ × Owner)
  pub ended : List ℕ
  pub left : List (ℕ × ℕ)
  pub settled : List (ℕ × ℕ)
  pub edges : List Edge

abbrev pub new_board : Board
new_board = record { entered = []; ended = []; left = []; settled = []; edges = [] }

abbrev pub has_pair : List (ℕ × ℕ) → ℕ → ℕ → Bool
has_pair pairs tx node = list_any (λ p. (p.0 == tx) && (p.1 == node)) pairs

abbrev pub has_ended : Board → ℕ → Bool
has_ended b tx = list_any (λ t. t == tx) b.ended

abbrev pub has_entered : Board → ℕ → Bool
has_entered b tx = list_any (λ e. e.0 == tx) b.entered

-- for a wait at a node a transaction is over once its End came and that node is not left
abbrev pub is_over : Board → ℕ → ℕ → Bool
is_over b node tx = has_ended b tx && not (has_pair b.left tx node)

abbrev pub is_live_edge : Board → Edge → Bool
is_live_edge b e = not (is_over b e.node.0 e.holder.0)

abbrev pub owner_in : Board → ℕ → Option Owner
owner_in b tx = option_map (λ e. e.1) (find (λ e. e.0 == tx) b.entered)

-- ---- waits

abbrev pub edge_to : Board → Tx → NodeName → Path → Mode → Holder → Option Edge
edge_to b tx node path wanted h = with_owners (owner_in b tx.0) (owner_in b h.tx.0)
  where
    with_owners : Option Owner → Option Owner → Option Edge
    with_owners (Some o) (Some p) =
        Some (record { waiter = tx; waiter_owner = o; node = node; path = path; wanted = wanted; holder = h.tx; holder_owner = p; held = h.mode })
    with_owners _ _ = None

-- the edges of a wait to its live holders
abbrev pub edges_of : Board → Tx → NodeName → Path → Mode → List Holder → List Edge
edges_of b tx node path wanted holders = filter (is_live_edge b) (filter_map (edge_to b tx node path wanted) holders)

abbrev pub live_edges : Board → List Edge
live_edges b = filter (is_live_edge b) b.edges

-- from an edge the transaction is reached along kept edges to live holders
abbrev pub Reaches : Board → ℕ → Edge → Type 0
Reaches b tx e = (es : List Edge) × IsChain (e ∷ es) × All (λ f. Contains (live_edges b) f) es × (last_holder e es ≡ tx)
  where
    last_holder : Edge → List Edge → ℕ
    last_holder e [] = e.holder.0
    last_holder e (f ∷ fs) = last_holder f fs

-- the first edge of a list from which the transaction is reached
pub record IsFirstReaching (b : Board) (tx : ℕ) (edges : List Edge) (e : Edge) : Type 0 where
  pub front : List Edge
  pub back : List Edge
  pub parts : edges ≡ front ++ e ∷ back
  pub reaches : Reaches b tx e
  pub earlier : All (λ f. ¬ (Reaches b tx f)) front

abbrev pub waits_of : Board → Tx → List Edge
waits_of b tx = filter (λ e. e.waiter.0 == tx.0) (live_edges b)

-- a cycle that begins among these edges, and follows at each transaction the first edge from which the waiter is reached
abbrev pub IsCycleOf : Board → ℕ → List Edge → List Edge → Type 0
IsCycleOf b tx edges [] = ⊥
IsCycleOf b tx edges (e ∷ []) = IsFirstReaching b tx edges e × (e.holder.0 ≡ tx)
IsCycleOf b tx edges (e ∷ f ∷ es) = IsFirstReaching b tx edges e × (e.holder.0 ≢ tx) × IsCycleOf b tx (waits_of b e.holder) (f ∷ es)

-- the edges of a wait in place of those of the same waiter
abbrev pub keeping : Board → Tx → List Edge → Board
keeping b tx edges = record b { edges = filter (λ e. not (e.waiter.0 == tx.0)) b.edges ++ edges }

-- ---- ends

abbrev pub pairs_with : ℕ → List ℕ → List (ℕ × ℕ)
pairs_with tx nodes = map (λ n. (tx, n)) nodes

-- the nodes of a set where the branch was not settled before
abbrev pub left_nodes : Board → ℕ → ℕ → List ℕ
left_nodes b tx set = filter (λ n. not (has_pair b.settled tx n)) (nodes_in set)

-- Only the first End of a transaction that was entered counts. It waits for nobody any more, so its edges go.
abbrev pub ending : Board → ℕ → ℕ → Board
ending b tx set =
    if has_entered b tx && not (has_ended b tx)
    then record b { ended = tx ∷ b.ended; left = pairs_with tx (left_nodes b tx set) ++ b.left; edges = filter (λ e. not (e.waiter.0 == tx)) b.edges }
    else b

abbrev pub settling : Board → ℕ → ℕ → Board
settling b tx node =
    if has_entered b tx then record b { left = filter (λ p. not ((p.0 == tx) && (p.1 == node))) b.left; settled = (tx, node) ∷ b.settled } else b

abbrev pub halting : Board → NodeName → Board
halting b node = record b { edges = filter (λ e. not (e.node.0 == node.0)) b.edges }

-- the first live target of a wait
abbrev pub target_of : List Edge → Answer
target_of [] = answer.Ready
target_of (e ∷ es) = answer.NotYet e.holder

-- ---- one request

-- what the manager is there for
abbrev pub is_managed : Request → Bool
is_managed (request.Enter tx owner) = true
is_managed (request.Wait tx node path wanted holders) = true
is_managed (request.Ready tx) = true
is_managed (request.End tx left) = true
is_managed (request.Settled tx node) = true
is_managed (request.Halted node) = true
is_managed _ = false

-- the transaction and the holders were entered
abbrev pub CanWait : Board → Tx → List Holder → Type 0
CanWait b tx holders = IsTrue (has_entered b tx.0) × All (λ h. IsTrue (has_entered b h.tx.0)) holders

-- what mgr answers, and what it is then
pub data Steps (b : Board) : Request → Answer → Board → Type 0 where
  enters : (tx : Tx) (owner : Owner) → IsTrue (not (has_entered b tx.0)) → Steps b (request.Enter tx owner) answer.Done (record b { entered = (tx.0, owner) ∷ b.entered })
  entered_before : (tx : Tx) (owner : Owner) → IsTrue (has_entered b tx.0) → Steps b (request.Enter tx owner) answer.NotMine b
  gone : (tx : Tx) (node : NodeName) (path : Path) (wanted : Mode) (holders : List Holder) → CanWait b tx holders → edges_of b tx node path wanted holders ≡ []
      → Steps b (request.Wait tx node path wanted holders) answer.Gone b
  cycle : (tx : Tx) (node : NodeName) (path : Path) (wanted : Mode) (holders : List Holder) (es : List Edge) → CanWait b tx holders
      → IsCycleOf b tx.0 (edges_of b tx node path wanted holders) es → Steps b (request.Wait tx node path wanted holders) (answer.Cycle es) b
  waits : (tx : Tx) (node : NodeName) (path : Path) (wanted : Mode) (holders : List Holder) → CanWait b tx holders → edges_of b tx node path wanted holders ≢ []
      → All (λ e. ¬ (Reaches b tx.0 e)) (edges_of b tx node path wanted holders)
      → Steps b (request.Wait tx node path wanted holders) (answer.Waiting (edges_of b tx node path wanted holders))
      (keeping b tx (edges_of b tx node path wanted holders))
  cannot_wait : (tx : Tx) (node : NodeName) (path : Path) (wanted : Mode) (holders : List Holder) → ¬ (CanWait b tx holders)
      → Steps b (request.Wait tx node path wanted holders) answer.NotMine b
  ready : (tx : Tx) → Steps b (request.Ready tx) (target_of (waits_of b tx)) b
  ends : (tx : Tx) (set : ℕ) → Steps b (request.End tx (record { 0 = set })) answer.Done (ending b tx.0 set)
  settles : (tx : Tx) (node : NodeName) → Steps b (request.Settled tx node) answer.Done (settling b tx.0 node.0)
  halts : (node : NodeName) → Steps b (request.Halted node) answer.Done (halting b node)
  others : (q : Request) → IsTrue (not (is_managed q)) → Steps b q answer.NotMine b
  no_memory : (q : Request) → Steps b q answer.NoMemory b
