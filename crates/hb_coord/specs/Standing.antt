-- A coordinator that is up: its log, and the state that it is in.
use Rattle.std.specs.Prelude.{◌≡◌, ◌⊎◌, ℕ, ◌+◌, ◌≤◌, ◌<◌, Bool, true, false, List, [], map, Option, ⊤}
use Rattle.hb_edge.specs.Images.{Image}
use Rattle.hb_types.specs.declared.change.LogItem.{LogItem}
use Rattle.hb_types.specs.declared.change.Placed.{Placed}
use Rattle.hb_types.specs.declared.answer.Answer.{Answer}
use Rattle.hb_types.specs.declared.answer.Answer.TheVariants as answer
use Rattle.hb_types.specs.declared.request.Request.{Request}
use Rattle.hb_types.specs.declared.request.Request.TheVariants as request
use Rattle.hb_types.specs.Lists.{Each}
use Rattle.hb_types.specs.Numbers.{IsNumber}
use Rattle.hb_log.specs.declared.log.Log.{Log}
use Rattle.hb_log.specs.Log.{IsSettled}
use Rattle.hb_disks.specs.Images.{HasItems}
use Rattle.hb_disks.specs.StandsFor.{IsCoordinators, greatest_upto}
use Rattle.hb_runs.specs.Coordinator.{CState, CEffect, reserved, decided, Allowed, happens, next_upto, next_number, nodes_of}
use Rattle.hb_runs.specs.ServerRuns.{Asked}
use Rattle.hb_coord.specs.Memory.{Reflects}
use Rattle.hb_coord.specs.declared.running.Running.{Running}

abbrev pub asking : Request → Answer → Asked
asking q a = record { request = q; answer = a }

abbrev pub items_of : List Placed → List LogItem
items_of placed = map (λ (p : Placed). p.item) placed

-- the image is a coordinator's log with these records
pub record IsLog (image : Image) (items : List LogItem) : Type 0 where
  pub has_items : HasItems image items
  pub own : Each IsCoordinators items

-- the log is open and settled, and its records are these
pub record HasLog {D : Type 0} (content : D → Option Image) (left : D → ℕ → Image → Type 0) (last : D → ℕ) (items : List LogItem) (log : Log D) (moment : ℕ) : Type 0 where
  pub placed : List Placed
  pub settled : IsSettled content left last 0 placed log
  pub items_are : items_of placed ≡ items
  pub in_time : last log.disk ≤ moment

-- the coordinator is up, in this state
pub record IsUp {D : Type 0} (content : D → Option Image) (left : D → ℕ → Image → Type 0) (last : D → ℕ) (k : CState) (r : Running D) (moment : ℕ) : Type 0 where
  pub up : k.up ≡ true
  pub own : Each IsCoordinators k.log
  pub is_reserved : k.next ≤ greatest_upto k.log + 1
  pub log : HasLog content left last k.log r.log moment
  pub reflects : Reflects k r.ledger

-- what a request records, where it is allowed
abbrev pub Records : CState → Request → CEffect → Type 0
Records k (request.Begin owner) e = (greatest_upto k.log < k.next) × (e ≡ reserved (next_upto k))
Records k (request.Decide tx votes) e = e ≡ decided tx.0 (next_number k votes) (nodes_of votes)
Records k _ e = ⊥

-- an answer of a coordinator that stays up
abbrev pub is_quiet : Answer → Bool
is_quiet (answer.Fault area) = false
is_quiet (answer.Damaged area place) = false
is_quiet _ = true

-- an answer of a coordinator: well formed, and without a list
abbrev pub IsOwn : Answer → Type 0
IsOwn (answer.Begun tx) = IsNumber tx.0
IsOwn (answer.Decided number) = IsNumber number.0
IsOwn (answer.Started doubts) = doubts ≡ []
IsOwn answer.Active = ⊤
IsOwn answer.Aborted = ⊤
IsOwn answer.Done = ⊤
IsOwn answer.Down = ⊤
IsOwn answer.NotMine = ⊤
IsOwn answer.NotActive = ⊤
IsOwn answer.AlreadyUp = ⊤
IsOwn answer.NumbersSpent = ⊤
IsOwn (answer.Fault area) = ⊤
IsOwn (answer.Damaged area place) = ⊤
IsOwn answer.NoMemory = ⊤
IsOwn _ = ⊥

-- whether it tells of a record
abbrev pub is_recording : Answer → Bool
is_recording (answer.Begun tx) = true
is_recording (answer.Decided number) = true
is_recording _ = false

-- whether it records nothing
abbrev pub records_none : Request → Bool
records_none (request.Begin owner) = false
records_none (request.Decide tx votes) = false
records_none _ = true

-- the image's records are those from before, or these and the one that the request records
abbrev pub IsBetween : CState → Request → Image → Type 0
IsBetween k q image = IsLog image k.log ⊎ ((e : CEffect) × Records k q e × Allowed k e × IsLog image (happens k e).log)
