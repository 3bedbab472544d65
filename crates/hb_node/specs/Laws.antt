-- The local law of a node: its trail is a run, and so is what each image of its disks has.
use Rattle.std.specs.Prelude.{◌≡◌, ℕ, ◌≤◌, ◌<◌, true, ◌⊎◌, List, [], ◌∷◌, ◌++◌, map}
use Rattle.hb_edge.specs.Images.{Image}
use Rattle.hb_types.specs.declared.change.Placed.{Placed}
use Rattle.hb_types.specs.declared.answer.Answer.{Answer}
use Rattle.hb_types.specs.declared.request.Request.{Request}
use Rattle.hb_types.specs.declared.trail.TrailEntry.{TrailEntry}
use Rattle.hb_types.specs.Calls.{may_pass}
use Rattle.hb_types.specs.Logs.{Records}
use Rattle.hb_runs.specs.Board.{Board, Steps as BoardSteps}
use Rattle.hb_runs.specs.Coordinator.{CState, CRun}
use Rattle.hb_runs.specs.Server.{SState}
use Rattle.hb_runs.specs.ServerRuns.{Asked, Run}

-- ---- what a node may be

-- a dictionary server or a back end, the front end, or the manager
pub data State : Type 0 where
  serving : SState → State
  deciding : CState → State
  managing : Board → State

-- a node of this name has such a state: 0 is fes1, 10 is mgr, and those between are ds and the back ends
abbrev pub IsOfName : ℕ → State → Type 0
IsOfName name (serving s) = (1 ≤ name) × (name ≤ 9)
IsOfName name (deciding k) = name ≡ 0
IsOfName name (managing b) = name ≡ 10

-- ---- runs

-- a request and its answer, as an entry of a trail has them
abbrev pub asked_in : TrailEntry → Asked
asked_in e = record { request = e.request; answer = e.answer }

abbrev pub asked_of : List TrailEntry → List Asked
asked_of trail = map asked_in trail

-- calls of the manager that its trail leaves out
pub data Passes : Board → Board → Type 0 where
  stays : (b : Board) → Passes b b
  passing : (b c d : Board) (a : Asked) → may_pass a.request a.answer ≡ true → BoardSteps b a.request a.answer c → Passes c d → Passes b d

-- a run of the manager: between two entries of its trail stand calls that it leaves out
abbrev pub BoardRun : Board → List Asked → Board → Type 0
BoardRun b [] d = Passes b d
BoardRun b (a ∷ more) d = (c : Board) × (e : Board) × Passes b c × BoardSteps c a.request a.answer e × BoardRun e more d

-- these requests, so answered, lead from one state to the other
abbrev pub Runs : State → List Asked → State → Type 0
Runs (serving s) asked (serving t) = Run s asked t
Runs (deciding k) asked (deciding l) = CRun k asked l
Runs (managing b) asked (managing c) = BoardRun b asked c
Runs _ asked _ = ⊥

-- ---- one call

abbrev pub entry_of : Request → Answer → ℕ → ℕ → TrailEntry
entry_of request answer from to = record { caller = 0; nth = 0; request = request; answer = answer; from = from; to = to }

-- the trail is longer by the call, or as it was where the call may have changed nothing
abbrev pub Enters : List TrailEntry → List TrailEntry → TrailEntry → Type 0
Enters old new e = (new ≡ old ++ e ∷ []) ⊎ ((may_pass e.request e.answer ≡ true) × (new ≡ old))

-- ---- images

-- a log image has the records of a state: a server's from where its log ended at first, the front end's from the beginning
abbrev pub HasLog : Image → State → Type 0
HasLog log (serving s) = (placed : List Placed) × Records log s.place placed × (map (λ p. p.item) placed ≡ s.log)
HasLog log (deciding k) = (placed : List Placed) × Records log 0 placed × (map (λ p. p.item) placed ≡ k.log)
HasLog log (managing b) = log ≡ []

-- some run of these calls ends with what the log image has
abbrev pub Explains : State → List Asked → Image → Type 0
Explains origin asked log = (t : State) × Runs origin asked t × HasLog log t

-- What a stop since the start of a call may leave on the log: what the calls before it made, or these and this one; and after it
-- what the trail says. Before it, what it was.
pub record Images (origin : State) (old new : List TrailEntry) (e : TrailEntry) (left leaves : ℕ → Image → Image → Type 0) : Type 0 where
  pub before : (m : ℕ) (log area : Image) → m < e.from → leaves m log area → left m log area
  pub within : (m : ℕ) (log area : Image) → e.from ≤ m → leaves m log area → Explains origin (asked_of old) log ⊎ Explains origin (asked_of old ++ asked_in e ∷ []) log
  pub after : (m : ℕ) (log area : Image) → e.to ≤ m → leaves m log area → Explains origin (asked_of new) log
