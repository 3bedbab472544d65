-- A wait, as the manager judges and keeps it.
use Rattle.std.specs.Prelude.{◌≡◌, ◌≢◌, ℕ, Bool, ◌&&◌, List, [], filter, filter_map, All, Option, Some, None, is_some}
use Rattle.std.specs.List.{list_all}
use Rattle.std.specs.Ordering.{nat_cmp}
use Rattle.std.specs.BTreeMap.{BTreeMap, get}
use Rattle.hb_types.specs.declared.answer.Edge.{Edge}
use Rattle.hb_types.specs.declared.lock.Holder.{Holder}
use Rattle.hb_types.specs.declared.lock.Mode.{Mode}
use Rattle.hb_types.specs.declared.names.NodeName.{NodeName}
use Rattle.hb_types.specs.declared.names.Owner.{Owner}
use Rattle.hb_types.specs.declared.names.Tx.{Tx}
use Rattle.hb_types.specs.declared.places.Path.{Path}
use Rattle.hb_types.specs.declared.answer.Answer.{Answer}
use Rattle.hb_types.specs.declared.answer.Answer.TheVariants as answer
use Rattle.hb_types.specs.declared.request.Request.TheVariants as request
use Rattle.hb_types.specs.Lists.{Each}
use Rattle.hb_runs.specs.Board.{Board as BoardState, Reaches, IsCycleOf}
use Rattle.hb_board.specs.Shows.{Turns, is_live_in, owner_at}
use Rattle.hb_board.specs.declared.known.Known.{Known}
use Rattle.hb_board.specs.declared.board.Board.{Board}
use Rattle.hb_board.specs.declared.waits.Waits.{Waits}
use Rattle.hb_board.specs.declared.waits.Waits.TheVariants as waits

abbrev pub is_known_in : BTreeMap ℕ Known → Tx → Bool
is_known_in known tx = is_some (get nat_cmp known tx.0)

-- the transaction and the holders were entered
abbrev pub can_wait_in : BTreeMap ℕ Known → Tx → List Holder → Bool
can_wait_in known tx holders = list_all (λ h. is_known_in known h.tx) holders && is_known_in known tx

-- the edge of a wait to a holder
abbrev pub edge_in : BTreeMap ℕ Known → Tx → NodeName → Path → Mode → Holder → Option Edge
edge_in known tx node path wanted h = with_owners (owner_at (get nat_cmp known tx.0)) (owner_at (get nat_cmp known h.tx.0))
  where
    with_owners : Option Owner → Option Owner → Option Edge
    with_owners (Some o) (Some p) =
        Some (record { waiter = tx; waiter_owner = o; node = node; path = path; wanted = wanted; holder = h.tx; holder_owner = p; held = h.mode })
    with_owners _ _ = None

-- the edges of a wait to the holders that are live
abbrev pub edges_now : BTreeMap ℕ Known → Tx → NodeName → Path → Mode → List Holder → List Edge
edges_now known tx node path wanted holders = filter (is_live_in known) (filter_map (edge_in known tx node path wanted) holders)

-- edges of one waiter at one node
abbrev pub AreOf : Tx → NodeName → List Edge → Type 0
AreOf tx node edges = Each (λ e. (e.waiter.0 ≡ tx.0) × (e.node.0 ≡ node.0)) edges

-- what a wait with these edges is answered
abbrev pub Judges : BoardState → Tx → List Edge → Waits → Type 0
Judges b tx edges (waits.Waiting es) = (es ≡ edges) × (edges ≢ []) × All (λ e. ¬ (Reaches b tx.0 e)) edges
Judges b tx edges (waits.Cycle es) = IsCycleOf b tx.0 edges es
Judges b tx edges waits.Gone = edges ≡ []

abbrev pub wait_answer : Waits → Answer
wait_answer (waits.Waiting es) = answer.Waiting es
wait_answer (waits.Cycle es) = answer.Cycle es
wait_answer waits.Gone = answer.Gone

-- a wait was answered, and what it keeps is kept
abbrev pub Waited : Tx → NodeName → Path → Mode → List Holder → Waits → Board → Board → Type 0
Waited tx node path wanted holders w old new = Turns (request.Wait tx node path wanted holders) (wait_answer w) old new
