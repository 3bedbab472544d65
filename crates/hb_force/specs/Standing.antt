-- A server that is up: its log, and the state that it is in.
use Rattle.std.specs.Prelude.{◌≡◌, ◌⊎◌, ℕ, ◌≤◌, Bool, true, false, List, ◌++◌, length, map, Option}
use Rattle.hb_edge.specs.Images.{Image}
use Rattle.hb_edge.specs.Stops.{Leaves}
use Rattle.hb_types.specs.declared.answer.Answer.{Answer}
use Rattle.hb_types.specs.declared.answer.Answer.TheVariants as answer
use Rattle.hb_types.specs.declared.change.LogItem.{LogItem}
use Rattle.hb_types.specs.declared.change.Placed.{Placed}
use Rattle.hb_types.specs.declared.change.Stored.{Stored}
use Rattle.hb_types.specs.declared.request.Request.{Request}
use Rattle.hb_types.specs.declared.request.Request.TheVariants as request
use Rattle.hb_types.specs.Logs.{Records}
use Rattle.hb_log.specs.declared.log.Log.{Log}
use Rattle.hb_log.specs.Log.{IsSettled}
use Rattle.hb_disks.specs.LogPlaces.{end_behind}
use Rattle.hb_runs.specs.Server.{SState}
use Rattle.hb_runs.specs.ServerEffects.{Effect, prepared, committed, aborted, Allowed, happens}
use Rattle.hb_runs.specs.ServerAnswers.{Right}
use Rattle.hb_engine.specs.Turned.{StandsFor, Turned}
use Rattle.hb_force.specs.declared.running.Running.{Running}

abbrev pub items_of : List Placed → List LogItem
items_of placed = map (λ (p : Placed). p.item) placed

-- from a place on the image has these records
abbrev pub HasFrom : ℕ → Image → List LogItem → Type 0
HasFrom from image items = (placed : List Placed) × Records image from placed × (items_of placed ≡ items)

-- the log is open and settled, and its records from a place on are these
pub record HasRecords {D : Type 0} (content : D → Option Image) (left : D → ℕ → Image → Type 0) (last : D → ℕ) (from : ℕ) (items : List LogItem) (log : Log D) (moment : ℕ) : Type 0 where
  pub placed : List Placed
  pub settled : IsSettled content left last from placed log
  pub items_are : items_of placed ≡ items
  pub in_time : last log.disk ≤ moment

-- The server is up in this state: its branches, beside the store's rows, stand for it, and its log has the records that were read
-- from a place on, with those since behind them.
pub record IsUp {D S : Type 0} (content : D → Option Image) (left : D → ℕ → Image → Type 0) (last : D → ℕ) (rows : S → List Stored) (from : ℕ) (read : List LogItem) (s : SState) (r : Running D S) (moment : ℕ) : Type 0 where
  pub stands : StandsFor r.engine (rows r.store) s
  pub log : HasRecords content left last from (read ++ s.log) r.log moment
  pub place_is : end_behind from read ≡ s.place

-- an answer of a server that stays up
abbrev pub is_quiet : Answer → Bool
is_quiet (answer.Fault area) = false
is_quiet (answer.Damaged area place) = false
is_quiet _ = true

-- whether a request with this answer has its record in the log
abbrev pub is_recorded : Request → Answer → Bool
is_recorded (request.Prepare tx) (answer.Vote floor) = true
is_recorded (request.Commit tx number) answer.Done = true
is_recorded (request.Rollback tx) answer.Done = true
is_recorded _ _ = false

-- what a request records, where it is allowed
abbrev pub Recorded : Request → Effect → Type 0
Recorded (request.Prepare tx) e = e ≡ prepared tx.0
Recorded (request.Commit tx number) e = e ≡ committed tx.0 number.0
Recorded (request.Rollback tx) e = e ≡ aborted tx.0
Recorded _ e = ⊥

-- the image's records are those from before, or these and the one that the request records
abbrev pub IsBetween : ℕ → List LogItem → SState → Request → Image → Type 0
IsBetween from read s q image = HasFrom from image (read ++ s.log) ⊎ ((e : Effect) × Recorded q e × Allowed s e × HasFrom from image (read ++ (happens s e).log))

-- ---- what a call says of every state that the server is up in

-- the request, so answered, leads it to one that the server is up in now
abbrev pub Turns : {D S : Type 0} → (D → Option Image) → (D → ℕ → Image → Type 0) → (D → ℕ) → (S → List Stored) → Running D S → ℕ → Running D S → ℕ → Request → Answer → Type 0
Turns content left last rows old before new after q a =
    (from : ℕ) (read : List LogItem) (s : SState) → IsUp content left last rows from read s old before → Turned s q a (λ t. IsUp content left last rows from read t new after)

-- the request may be answered a fault of the log
abbrev pub Faults : {D S : Type 0} → (D → Option Image) → (D → ℕ → Image → Type 0) → (D → ℕ) → (S → List Stored) → Running D S → ℕ → Request → Type 0
Faults content left last rows old before q =
    (from : ℕ) (read : List LogItem) (s : SState) → IsUp content left last rows from read s old before → Right s q (answer.Fault false)

-- A stop since the start of the request leaves the records from before, or these and the one that the request records, and no fewer
-- bytes than the log's disk read.
abbrev pub LeavesBetween : {D S : Type 0} → (D → Option Image) → (D → ℕ → Image → Type 0) → (D → ℕ) → (S → List Stored) → Running D S → ℕ → Running D S → Request → Type 0
LeavesBetween content left last rows old before new q =
    (from : ℕ) (read : List LogItem) (s : SState) (up : IsUp content left last rows from read s old before)
    → Leaves before (left old.log.disk) (left new.log.disk) (λ m image. IsBetween from read s q image × (length up.log.settled.image ≤ length image))
