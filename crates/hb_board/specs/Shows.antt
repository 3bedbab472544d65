-- What the manager has in memory, and the board that it stands for.
use Rattle.std.specs.Prelude.{◌≡◌, ◌≢◌, ℕ, ◌<◌, ◌==◌, Bool, true, false, not, ◌&&◌, List, [], filter, length, Option, Some, None, get_or}
use Rattle.std.specs.Ordering.{nat_cmp}
use Rattle.std.specs.BTreeMap.{BTreeMap, get}
use Rattle.hb_types.specs.declared.answer.Edge.{Edge}
use Rattle.hb_types.specs.declared.names.Owner.{Owner}
use Rattle.hb_types.specs.Lists.{Each}
use Rattle.hb_model.specs.NodeSets.{has_node}
use Rattle.hb_types.specs.declared.answer.Answer.{Answer}
use Rattle.hb_types.specs.declared.answer.Answer.TheVariants as answer
use Rattle.hb_types.specs.declared.request.Request.{Request}
use Rattle.hb_runs.specs.Board.{Board as BoardState, Steps, has_ended, has_pair, owner_in}
use Rattle.hb_board.specs.declared.known.Known.{Known}
use Rattle.hb_board.specs.declared.waits.Ready.{Ready}
use Rattle.hb_board.specs.declared.waits.Ready.TheVariants as ready
use Rattle.hb_board.specs.declared.waits.Wait.{Wait}
use Rattle.hb_board.specs.declared.board.Board.{Board}

abbrev pub known_in : Board → ℕ → Option Known
known_in m tx = get nat_cmp m.known tx

-- the kept edges of a wait
abbrev pub edges_in : Option Wait → List Edge
edges_in None = []
edges_in (Some wait) = wait.edges

abbrev pub kept_by : Board → ℕ → List Edge
kept_by m tx = edges_in (get nat_cmp m.waits tx)

-- a node is open to a transaction until it is settled there, or it ended without leaving that node
abbrev pub is_open : Known → ℕ → Bool
is_open x node = get_or x.unsettled node false

-- its End comes, and it leaves the nodes of a set; only the first End counts
abbrev pub Ends : Known → Known → ℕ → Type 0
Ends old new set =
    (old.ended ≡ true → new ≡ old)
    × (old.ended ≡ false → (new.owner ≡ old.owner) × (new.ended ≡ true) × (length new.unsettled ≡ length old.unsettled)
    × ((node : ℕ) → node < 11 → is_open new node ≡ (is_open old node && has_node set node)))

-- it is settled at a node
abbrev pub Settles : Known → Known → ℕ → Type 0
Settles old new node =
    (new.owner ≡ old.owner) × (new.ended ≡ old.ended) × (length new.unsettled ≡ length old.unsettled)
    × ((n : ℕ) → n < 11 → is_open new n ≡ (is_open old n && not (n == node)))

-- what is known of a transaction that was entered
pub record IsKnownAs (b : BoardState) (tx : ℕ) (x : Known) : Type 0 where
  pub owner : owner_in b tx ≡ Some x.owner
  pub ended : has_ended b tx ≡ x.ended
  pub left : (node : ℕ) → has_pair b.left tx node ≡ (x.ended && is_open x node)
  pub size : length x.unsettled ≡ 11
  pub settled : x.ended ≡ false → (node : ℕ) → node < 11 → has_pair b.settled tx node ≡ not (is_open x node)

-- a transaction that was not entered
pub record IsUnknown (b : BoardState) (tx : ℕ) : Type 0 where
  pub owner : owner_in b tx ≡ None
  pub ended : has_ended b tx ≡ false
  pub left : (node : ℕ) → has_pair b.left tx node ≡ false
  pub settled : (node : ℕ) → has_pair b.settled tx node ≡ false

abbrev pub IsKnown : BoardState → ℕ → Option Known → Type 0
IsKnown b tx None = IsUnknown b tx
IsKnown b tx (Some x) = IsKnownAs b tx x

-- what was known has become what is known
abbrev pub Becomes : (Known → Known → Type 0) → Option Known → Option Known → Type 0
Becomes R None now = now ≡ None
Becomes R (Some x) now = (y : Known) × (now ≡ Some y) × R x y

-- only one transaction is known otherwise than before
abbrev pub Changes : (Known → Known → Type 0) → BTreeMap ℕ Known → BTreeMap ℕ Known → ℕ → Type 0
Changes R old new tx = ((q : ℕ) → tx ≢ q → get nat_cmp new q ≡ get nat_cmp old q) × Becomes R (get nat_cmp old tx) (get nat_cmp new tx)

abbrev pub owner_at : Option Known → Option Owner
owner_at None = None
owner_at (Some x) = Some x.owner

-- it was entered, and its End has not come
abbrev pub is_active : Option Known → Bool
is_active None = false
is_active (Some x) = not x.ended

-- a transaction is over for a wait at a node
abbrev pub over_in : Option Known → ℕ → Bool
over_in None node = false
over_in (Some x) node = x.ended && not (is_open x node)

abbrev pub is_live_in : BTreeMap ℕ Known → Edge → Bool
is_live_in known e = not (over_in (get nat_cmp known e.holder.0) e.node.0)

-- the edges of one wait stand at one node
abbrev pub AreAt : Option Wait → Type 0
AreAt None = Unit {0}
AreAt (Some wait) = Each (λ e. e.node.0 ≡ wait.node.0) wait.edges

pub record Shows (b : BoardState) (m : Board) : Type 0 where
  pub known : (tx : ℕ) → IsKnown b tx (known_in m tx)
  pub edges : (tx : ℕ) → filter (λ e. e.waiter.0 == tx) b.edges ≡ kept_by m tx
  pub at : (tx : ℕ) → AreAt (get nat_cmp m.waits tx)

-- ---- one request

abbrev pub answer_of : Ready → Answer
answer_of ready.Ready = answer.Ready
answer_of (ready.NotYet target) = answer.NotYet target

-- a board that is shown goes on by a step to one that is shown
abbrev pub Turns : Request → Answer → Board → Board → Type 0
Turns q a old new = (b : BoardState) → Shows b old → (c : BoardState) × Steps b q a c × Shows c new
