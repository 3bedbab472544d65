-- The manager's requests, as it does them.
use Rattle.std.specs.Prelude.{◌≡◌, Bool, true, false, List, ◌∷◌, Option, Some, None, ⊤}
use Rattle.hb_types.specs.declared.answer.Answer.{Answer}
use Rattle.hb_types.specs.declared.answer.Answer.TheVariants as answer
use Rattle.hb_types.specs.declared.answer.Edge.{Edge}
use Rattle.hb_types.specs.declared.names.Owner.{Owner}
use Rattle.hb_types.specs.declared.names.Tx.{Tx}
use Rattle.hb_types.specs.declared.request.Request.{Request}
use Rattle.hb_types.specs.declared.request.Request.TheVariants as request
use Rattle.hb_runs.specs.Board.{Board as BoardState, Steps, keeping, ending, settling, halting, has_entered}
use Rattle.hb_board.specs.Shows.{Shows}
use Rattle.hb_board.specs.Waiting.{AreOf}
use Rattle.hb_board.specs.Cycles.{HasNoCycle, IsExact}
use Rattle.hb_board.specs.declared.board.Board.{Board}

-- a request that wants no memory
abbrev pub takes_none : Request → Bool
takes_none (request.Enter tx owner) = false
takes_none (request.Wait tx node path wanted holders) = false
takes_none _ = true

-- the answer is one that a board which is shown gives
abbrev pub IsAnswered : Request → Answer → Board → Type 0
IsAnswered q a m = (b : BoardState) → Shows b m → (c : BoardState) × Steps b q a c

abbrev pub is_done : Answer → Bool
is_done answer.Done = true
is_done _ = false

-- the edges that are kept of a wait
abbrev pub edges_kept : Answer → Option (List Edge)
edges_kept (answer.Waiting es) = Some es
edges_kept _ = None

abbrev pub entering : BoardState → Tx → Owner → Bool → BoardState
entering b tx owner true = record b { entered = (tx.0, owner) ∷ b.entered }
entering b tx owner false = b

abbrev pub waiting : BoardState → Tx → Option (List Edge) → BoardState
waiting b tx (Some es) = keeping b tx es
waiting b tx None = b

-- what a board is after a request that was so answered
abbrev pub after : BoardState → Request → Answer → BoardState
after b (request.Enter tx owner) a = entering b tx owner (is_done a)
after b (request.Wait tx node path wanted holders) a = waiting b tx (edges_kept a)
after b (request.End tx left) a = ending b tx.0 left.0
after b (request.Settled tx node) a = settling b tx.0 node.0
after b (request.Halted node) a = halting b node
after b _ a = b

-- what the answer says of the request
abbrev pub Fits : BoardState → Request → Answer → Type 0
Fits b (request.Enter tx owner) a = is_done a ≡ true → has_entered b tx.0 ≡ false
Fits b (request.Wait tx node path wanted holders) a = (es : List Edge) → edges_kept a ≡ Some es → AreOf tx node es
Fits b _ a = ⊤

-- A board that is shown goes on by a step to one that is shown; where no transactions waited for each other none do, and a cycle is
-- answered exactly where the wait would close one.
abbrev pub Goes : Request → Answer → Board → Board → Type 0
Goes q a old new = (b : BoardState) → Shows b old → (c : BoardState) × Steps b q a c × Shows c new × (HasNoCycle b → HasNoCycle c × IsExact b q a)
