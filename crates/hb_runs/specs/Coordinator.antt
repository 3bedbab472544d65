-- The coordinator: its state is its log, the next transaction, the active ones and whether it is up; what requests cause, and its runs.
use Rattle.std.specs.Prelude.{◌≡◌, ◌≢◌, ℕ, ◌+◌, ◌≤◌, ◌<◌, ◌==◌, max, min, Bool, true, false, ◌⊎◌, if◌then◌else◌, List, [], ◌∷◌, ◌++◌, map, fold, ⊤}
use Rattle.hb_types.specs.declared.change.LogItem.{LogItem}
use Rattle.hb_types.specs.declared.change.LogItem.TheVariants as item
use Rattle.hb_types.specs.declared.names.NodeName.{NodeName}
use Rattle.hb_types.specs.declared.answer.Answer.{Answer}
use Rattle.hb_types.specs.declared.answer.Answer.TheVariants as answer
use Rattle.hb_types.specs.declared.request.Request.{Request}
use Rattle.hb_types.specs.declared.request.Request.TheVariants as request
use Rattle.hb_types.specs.declared.request.Vote.{Vote}
use Rattle.hb_types.specs.Lists.{Each, Has}
use Rattle.hb_types.specs.Numbers.{greatest}
use Rattle.hb_types.specs.Records.{record_length}
use Rattle.hb_disks.specs.Says.{decisions}
use Rattle.hb_disks.specs.LogPlaces.{end_behind}
use Rattle.hb_disks.specs.StandsFor.{greatest_upto}
use Rattle.hb_runs.specs.ServerRuns.{Asked}

-- the whole log, the next transaction, those begun and not ended since the last start, and whether it is up
pub record CState : Type 0 where
  pub log : List LogItem
  pub next : ℕ
  pub active : List ℕ
  pub up : Bool

-- a stopped coordinator: of what it was only its log counts
abbrev pub stopped_at : List LogItem → CState
stopped_at log = record { log = log; next = greatest_upto log + 1; active = []; up = false }

-- ---- what the log says

abbrev pub IsDecided : CState → ℕ → ℕ → Type 0
IsDecided k tx n = Has (λ d. (d.tx ≡ tx) × (d.number ≡ n)) (decisions k.log)

abbrev pub IsUndecided : CState → ℕ → Type 0
IsUndecided k tx = Each (λ d. d.tx ≢ tx) (decisions k.log)

abbrev pub IsActive : CState → ℕ → Type 0
IsActive k tx = Has (λ t. t ≡ tx) k.active

abbrev pub greatest_number : List LogItem → ℕ
greatest_number log = fold (λ n d. max n d.number) 0 (decisions log)

abbrev pub greatest_floor : List Vote → ℕ
greatest_floor votes = fold (λ n v. max n v.floor.0) 0 votes

-- one more than all earlier numbers and the floors of the votes
abbrev pub next_number : CState → List Vote → ℕ
next_number k votes = max (greatest_number k.log) (greatest_floor votes) + 1

abbrev pub nodes_of : List Vote → List NodeName
nodes_of votes = map (λ v. v.node) votes

-- ---- effects

pub data CEffect : Type 0 where
  reserved : (upto : ℕ) → CEffect
  begun : (tx : ℕ) → CEffect
  decided : (tx : ℕ) → (number : ℕ) → (nodes : List NodeName) → CEffect
  ended : (tx : ℕ) → CEffect
  lost : CEffect
  came_up : CEffect

abbrev pub without_active : ℕ → List ℕ → List ℕ
without_active tx [] = []
without_active tx (t ∷ ts) = if t == tx then without_active tx ts else t ∷ without_active tx ts

abbrev pub ids_item : ℕ → LogItem
ids_item upto = item.Ids upto

abbrev pub decision_item : ℕ → ℕ → List NodeName → LogItem
decision_item tx n nodes = item.Decision (record { 0 = tx }) (record { 0 = n }) nodes

abbrev pub happens : CState → CEffect → CState
happens k (reserved upto) = record k { log = k.log ++ ids_item upto ∷ [] }
happens k (begun tx) = record k { next = tx + 1; active = tx ∷ k.active }
happens k (decided tx n nodes) = record k { log = k.log ++ decision_item tx n nodes ∷ [] }
happens k (ended tx) = record k { active = without_active tx k.active }
happens k lost = stopped_at k.log
happens k came_up = record (stopped_at k.log) { up = true }

-- the log with this record and the closed gate behind it
abbrev pub HasRoomFor : CState → LogItem → Type 0
HasRoomFor k i = end_behind 0 k.log + record_length i + 1 ≤ greatest

abbrev pub Allowed : CState → CEffect → Type 0
Allowed k (reserved upto) = (greatest_upto k.log < upto) × (upto ≤ greatest) × HasRoomFor k (ids_item upto)
Allowed k (begun tx) = (tx ≡ k.next) × (tx ≤ greatest_upto k.log)
Allowed k (decided tx n nodes) = IsActive k tx × (greatest_number k.log < n) × (n ≤ greatest) × HasRoomFor k (decision_item tx n nodes)
Allowed k (ended tx) = IsActive k tx
Allowed k lost = ⊤
Allowed k came_up = k.up ≡ false

abbrev pub Steps : CState → List CEffect → CState → Type 0
Steps k [] t = k ≡ t
Steps k (e ∷ es) t = Allowed k e × Steps (happens k e) es t

-- ---- what a request causes

-- the upto that a Begin reserves, where the reserved numbers are spent
abbrev pub next_upto : CState → ℕ
next_upto k = min (greatest_upto k.log + 1000) greatest

-- a Begin reserves numbers exactly where none is left
abbrev pub Reserves : CState → List CEffect → Type 0
Reserves k es = ((k.next ≤ greatest_upto k.log) × (es ≡ [])) ⊎ ((greatest_upto k.log < k.next) × (es ≡ reserved (next_upto k) ∷ []))

abbrev pub Causes : CState → Request → Answer → List CEffect → Type 0
Causes k (request.Begin owner) (answer.Begun tx) es = (front : List CEffect) × Reserves k front × (es ≡ front ++ begun tx.0 ∷ [])
Causes k (request.Begin owner) (answer.Fault area) es = (es ≡ lost ∷ []) ⊎ (es ≡ reserved (next_upto k) ∷ lost ∷ [])
-- numbers may have been reserved before memory was wanting
Causes k (request.Begin owner) answer.NoMemory es = (es ≡ []) ⊎ Reserves k es
Causes k (request.Decide tx votes) (answer.Decided n) es = es ≡ decided tx.0 n.0 (nodes_of votes) ∷ ended tx.0 ∷ []
-- of a decision that faulted it is open whether it stands
Causes k (request.Decide tx votes) (answer.Fault area) es = (es ≡ lost ∷ []) ⊎ (es ≡ decided tx.0 (next_number k votes) (nodes_of votes) ∷ lost ∷ [])
Causes k (request.Abort tx) answer.Done es = (IsActive k tx.0 × (es ≡ ended tx.0 ∷ [])) ⊎ ((¬ (IsActive k tx.0)) × (es ≡ []))
Causes k request.Stop answer.Done es = es ≡ lost ∷ []
Causes k request.Start (answer.Started found) es = es ≡ came_up ∷ []
Causes k request.Start answer.NoMemory es = (es ≡ []) ⊎ (es ≡ came_up ∷ [])
Causes k _ _ es = es ≡ []

-- ---- what a request is answered

-- the number of the votes, or the log's end with the record and its gate, would pass the greatest
abbrev pub IsSpent : CState → ℕ → LogItem → Type 0
IsSpent k n i = (greatest < n) ⊎ (¬ (HasRoomFor k i))

abbrev pub BeginRight : CState → Answer → Type 0
BeginRight k (answer.Begun tx) = tx.0 ≡ k.next
BeginRight k answer.NumbersSpent = (greatest < k.next) ⊎ ((greatest_upto k.log < k.next) × (¬ (HasRoomFor k (ids_item (next_upto k)))))
-- only where the record is written
BeginRight k (answer.Fault area) = (area ≡ false) × (greatest_upto k.log < k.next)
BeginRight k _ = ⊥

abbrev pub DecideRight : CState → ℕ → List Vote → Answer → Type 0
DecideRight k tx votes (answer.Decided n) = n.0 ≡ next_number k votes
DecideRight k tx votes (answer.Fault area) = (area ≡ false) × IsActive k tx
DecideRight k tx votes answer.NotActive = ¬ (IsActive k tx)
DecideRight k tx votes answer.NumbersSpent = IsActive k tx × IsSpent k (next_number k votes) (decision_item tx (next_number k votes) (nodes_of votes))
DecideRight k tx votes _ = ⊥

-- decided is what the log has; active is what is begun and not ended, or not begun yet; all else is aborted
abbrev pub OutcomeRight : CState → ℕ → Answer → Type 0
OutcomeRight k tx (answer.Decided n) = IsDecided k tx n.0
OutcomeRight k tx answer.Active = IsUndecided k tx × (IsActive k tx ⊎ (k.next ≤ tx))
OutcomeRight k tx answer.Aborted = IsUndecided k tx × (¬ (IsActive k tx)) × (tx < k.next)
OutcomeRight k tx _ = ⊥

abbrev pub UpRight : CState → Request → Answer → Type 0
UpRight k (request.Begin owner) a = BeginRight k a
UpRight k (request.Decide tx votes) a = DecideRight k tx.0 votes a
UpRight k (request.Abort tx) answer.Done = ⊤
UpRight k (request.Abort tx) _ = ⊥
UpRight k (request.Outcome tx) a = OutcomeRight k tx.0 a
UpRight k request.Stop answer.Done = ⊤
UpRight k request.Stop _ = ⊥
UpRight k request.Start answer.AlreadyUp = ⊤
UpRight k request.Start _ = ⊥
UpRight k _ answer.NotMine = ⊤
UpRight k _ _ = ⊥

abbrev pub DownRight : Request → Answer → Type 0
DownRight request.Start (answer.Started found) = found ≡ []
DownRight request.Start (answer.Fault area) = ⊤
DownRight request.Start (answer.Damaged area place) = ⊤
DownRight request.Start answer.NoMemory = ⊤
DownRight request.Start _ = ⊥
DownRight _ answer.Down = ⊤
DownRight _ _ = ⊥

abbrev pub takes_none : Request → Bool
takes_none (request.Abort tx) = true
takes_none request.Stop = true
takes_none _ = false

abbrev pub RightIn : Bool → CState → Request → Answer → Type 0
RightIn true k q answer.NoMemory = takes_none q ≡ false
RightIn true k q a = UpRight k q a
RightIn false k q a = DownRight q a

abbrev pub Right : CState → Request → Answer → Type 0
Right k q a = RightIn k.up k q a

-- ---- runs

pub record CTurns (k : CState) (a : Asked) (t : CState) : Type 0 where
  pub effects : List CEffect
  pub causes : Causes k a.request a.answer effects
  pub right : Right k a.request a.answer
  pub steps : Steps k effects t

abbrev pub CRun : CState → List Asked → CState → Type 0
CRun k [] t = k ≡ t
CRun k (a ∷ more) t = (u : CState) × CTurns k a u × CRun u more t
