-- The manager with its trail: what explains it, and what a request makes of it.
use Rattle.std.specs.Prelude.{◌≡◌, ◌≢◌, ℕ, Bool, true, false, List, [], refl, ⊤}
use Rattle.hb_edge.specs.Images.{Image}
use Rattle.hb_types.specs.declared.answer.Answer.{Answer}
use Rattle.hb_types.specs.declared.answer.Answer.TheVariants as answer
use Rattle.hb_types.specs.declared.request.Request.{Request}
use Rattle.hb_types.specs.declared.request.Request.TheVariants as request
use Rattle.hb_types.specs.Lists.{Each}
use Rattle.hb_types.specs.Numbers.{IsNumber}
use Rattle.hb_runs.specs.Board.{Board as BoardState, Steps}
use Rattle.hb_runs.specs.ServerRuns.{Asked}
use Rattle.hb_board.specs.Shows.{Shows}
use Rattle.hb_board.specs.Asking.{takes_none}
use Rattle.hb_board.specs.declared.board.Board.{Board}
use Rattle.hb_node.specs.Laws.{State, serving, deciding, managing, IsOfName, Runs, BoardRun}

-- the calls lead from the state to a board that is shown
abbrev pub Explains : Board → State → List Asked → Type 0
Explains m (managing origin) asked = (b : BoardState) × BoardRun origin asked b × Shows b m
Explains m (serving s) asked = ⊥
Explains m (deciding k) asked = ⊥

-- what explains it is a run
pub explained : (m : Board) (origin : State) (asked : List Asked) → Explains m origin asked → IsOfName 10 origin × ((t : State) × Runs origin asked t)
explained m (managing origin) asked (b, run, shows) = (refl, (managing b, run))
explained m (serving s) asked e = absurd e
explained m (deciding k) asked e = absurd e

-- it has no disks: an image of one is empty
abbrev pub leaves_nothing : ℕ → Image → Image → Type 0
leaves_nothing m log area = (log ≡ []) × (area ≡ [])

-- requests that take no memory, which the trail leaves out
abbrev pub is_left_out : Request → Bool
is_left_out (request.Ready tx) = true
is_left_out (request.End tx left) = true
is_left_out (request.Settled tx node) = true
is_left_out (request.Halted node) = true
is_left_out _ = false

-- some board is shown, at which numbers of transactions are waited for
abbrev pub IsSound : Board → Type 0
IsSound m = (b : BoardState) × Shows b m × Each (λ e. IsNumber e.holder.0) b.edges

-- the request, so answered, leads each board that is shown to one that is shown then
abbrev pub GoesOn : Request → Answer → Board → Board → Type 0
GoesOn q a old new = (b : BoardState) → Shows b old → (c : BoardState) × Steps b q a c × Shows c new

-- the board, where it is shown, may answer so
abbrev pub IsAnsweredBy : Board → Request → Answer → Type 0
IsAnsweredBy m q a = ((b : BoardState) → Shows b m → (c : BoardState) × Steps b q a c) × (takes_none q ≡ true → a ≢ answer.NoMemory)

-- an answer of the manager; a target is a transaction's number
abbrev pub IsManagers : Answer → Type 0
IsManagers (answer.NotYet target) = IsNumber target.0
IsManagers answer.Done = ⊤
IsManagers answer.NotMine = ⊤
IsManagers answer.Gone = ⊤
IsManagers (answer.Cycle edges) = ⊤
IsManagers (answer.Waiting edges) = ⊤
IsManagers answer.Ready = ⊤
IsManagers answer.NoMemory = ⊤
IsManagers _ = ⊥
