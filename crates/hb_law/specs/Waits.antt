-- Waiting edges and cycles of them.
use Rattle.std.specs.Prelude.{◌≡◌, ◌≢◌, ◌==◌, Bool, false, not, ◌⊎◌, IsTrue, List, [], ◌∷◌, ◌++◌, All, Any, Contains, filter, if◌then◌else◌, Some}
use Rattle.hb_types.specs.declared.lock.Holder.{Holder}
use Rattle.hb_types.specs.declared.lock.Mode.{Mode}
use Rattle.hb_types.specs.declared.change.LogItem.{LogItem}
use Rattle.hb_types.specs.declared.names.NodeName.{NodeName}
use Rattle.hb_types.specs.declared.names.Owner.{Owner}
use Rattle.hb_types.specs.declared.names.Tx.{Tx}
use Rattle.hb_types.specs.declared.places.Path.{Path}
use Rattle.hb_types.specs.declared.answer.Answer.{Answer}
use Rattle.hb_types.specs.declared.answer.Answer.TheVariants as answer
use Rattle.hb_types.specs.declared.answer.Edge.{Edge}
use Rattle.hb_types.specs.declared.request.Request.{Request}
use Rattle.hb_types.specs.declared.request.Request.TheVariants as request
use Rattle.hb_types.specs.declared.trail.TrailEntry.{TrailEntry}
use Rattle.hb_types.specs.Modes.{compatible}
use Rattle.hb_model.specs.declared.line.Line.{Line}
use Rattle.hb_model.specs.declared.reply.Reply.TheVariants as reply
use Rattle.hb_disks.specs.Redo.{doubts}
use Rattle.hb_types.specs.Lists.{Has}
use Rattle.hb_runs.specs.Chains.{Follows, IsChain}

-- ---- edges

-- the two modes do not go together
abbrev pub Conflicts : Edge → Type 0
Conflicts e = compatible e.wanted e.held ≡ false

-- the node answered Blocked to a Lock of the waiter with this path, this mode, and this holder
pub record WasBlocked (e : Edge) (entry : TrailEntry) : Type 0 where
  pub asked : Path
  pub mode : Mode
  pub holders : List Holder
  pub request : entry.request ≡ request.Lock e.waiter asked mode
  pub answer : entry.answer ≡ answer.Blocked e.path e.wanted holders
  pub holder : Contains holders (record { tx = e.holder; mode = e.held })

-- what makes a holder live, beside what was shown of its end
pub record Life : Type 0 where
  pub is_ended : Owner → Bool
  pub is_stopped : NodeName → Bool
  pub log_of : NodeName → List LogItem

-- a holder is live: it is not shown ended, or is in doubt on the node's log as it reads, or the node is stopped
abbrev pub IsLive : Life → Edge → Type 0
IsLive life e = IsTrue (not (life.is_ended e.holder_owner)) ⊎ Has (λ p. p.tx ≡ e.holder.0) (doubts (life.log_of e.node)) ⊎ IsTrue (life.is_stopped e.node)

-- a waiting edge beside the trail of its node
pub record IsEdge (life : Life) (trail : List TrailEntry) (e : Edge) : Type 0 where
  pub conflicts : Conflicts e
  pub live : IsLive life e
  pub blocked : Any (WasBlocked e) trail

-- ---- cycles

-- the last edge leads to the first
abbrev pub Closes : Edge → List Edge → Type 0
Closes first [] = Follows first first
Closes first (e ∷ []) = Follows e first
Closes first (e ∷ f ∷ es) = Closes first (f ∷ es)

-- the edge stands in the last WAITS line of its waiter's session
pub record IsShownLast (lines : List Line) (e : Edge) : Type 0 where
  pub before : List Line
  pub l : Line
  pub after : List Line
  pub edges : List Edge
  pub all : lines ≡ before ++ l ∷ after
  pub waits : l.reply ≡ reply.Waits edges
  pub session : l.session ≡ Some e.waiter_owner.session
  pub there : Contains edges e
  pub last : All (λ m. m.session ≡ l.session → (es : List Edge) → m.reply ≢ reply.Waits es) after
  pub up_since : All (λ m. m.reply ≢ reply.Halted e.node) after

-- an edge of a cycle but the first, by what was shown, or by what the board knows of a wait that it could not show
abbrev pub IsKept : List Line → (Edge → Type 0) → Edge → Type 0
IsKept lines unshown e = IsShownLast lines e ⊎ unshown e

-- a cycle of edges, each but the first kept before
abbrev pub IsCycle : (Edge → Type 0) → List Edge → Type 0
IsCycle kept [] = ⊥
IsCycle kept (e ∷ es) = IsChain (e ∷ es) × Closes e (e ∷ es) × All kept es

-- ---- the same in mgr's trail

-- what a waiter was last answered by mgr, and whether its node was halted since
abbrev pub last_waiting : Tx → List Edge → List TrailEntry → List Edge
last_waiting tx kept [] = kept
last_waiting tx kept (e ∷ es) = last_waiting tx (of e.request e.answer) es
  where
    of : Request → Answer → List Edge
    of (request.Wait t node path wanted holders) (answer.Waiting edges) = if t.0 == tx.0 then edges else kept
    of (request.Halted node) answer.Done = filter (λ k. not (k.node.0 == node.0)) kept
    of _ _ = kept

-- the edge stands in the last Waiting of its waiter before, and its node was not halted since
abbrev pub IsKeptAtMgr : List TrailEntry → Edge → Type 0
IsKeptAtMgr before e = Contains (last_waiting e.waiter [] before) e
