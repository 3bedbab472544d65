-- What a search along kept edges finds.
use Rattle.std.specs.Prelude.{◌≡◌, ℕ, Bool, true, false, List, ◌++◌, filter, All}
use Rattle.std.specs.Ordering.{nat_cmp}
use Rattle.std.specs.BTreeSet.{contains}
use Rattle.hb_types.specs.declared.answer.Edge.{Edge}
use Rattle.hb_types.specs.declared.names.Tx.{Tx}
use Rattle.hb_runs.specs.Board.{Board as BoardState, Reaches, IsCycleOf, is_live_edge, waits_of}
use Rattle.hb_board.specs.Shows.{Shows}
use Rattle.hb_board.specs.declared.board.Board.{Board}
use Rattle.hb_board.specs.declared.search.Search.{Search}

-- from none of these edges the transaction is reached
abbrev pub NoneReaches : BoardState → ℕ → List Edge → Type 0
NoneReaches b tx edges = All (λ e. ¬ (Reaches b tx e)) edges

-- from no edge of those that were cleared it is
abbrev pub AreCleared : BoardState → Search → Type 0
AreCleared b s = (h : Tx) → contains nat_cmp s.cleared h.0 ≡ true → NoneReaches b s.target.0 (waits_of b h)

-- the way from these edges is laid behind the path, or there is none
abbrev pub Found : BoardState → List Edge → Search → Search → Bool → Type 0
Found b edges old new true = (es : List Edge) × (new.path.items ≡ old.path.items ++ es) × IsCycleOf b old.target.0 edges es
Found b edges old new false = (new.path.items ≡ old.path.items) × NoneReaches b old.target.0 edges

pub record Finds (m : Board) (edges : List Edge) (old new : Search) (found : Bool) : Type 0 where
  pub target : new.target ≡ old.target
  pub finds : (b : BoardState) → Shows b m → AreCleared b old → AreCleared b new × Found b (filter (is_live_edge b) edges) old new found
