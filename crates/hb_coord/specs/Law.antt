-- What the coordinator keeps: a run explains it, and each image that a stop leaves.
use Rattle.std.specs.Prelude.{◌≡◌, ◌⊎◌, ℕ, ◌+◌, ◌≤◌, Bool, true, false, not, if◌then◌else◌, is_some, List, [], ◌∷◌, ◌++◌, Option, None, IfSome}
use Rattle.std.specs.Ordering.{nat_cmp}
use Rattle.std.specs.BTreeSet.{btree_set_len, contains}
use Rattle.hb_edge.specs.Fuses.{last_of, faults_of}
use Rattle.hb_edge.specs.Images.{Image}
use Rattle.hb_edge.specs.declared.fused.Fused.{Fused}
use Rattle.hb_types.specs.declared.answer.Answer.{Answer}
use Rattle.hb_types.specs.declared.change.LogItem.{LogItem}
use Rattle.hb_types.specs.declared.request.Request.{Request}
use Rattle.hb_types.specs.declared.request.Request.TheVariants as request
use Rattle.hb_runs.specs.Coordinator.{CState, CRun, stopped_at}
use Rattle.hb_runs.specs.ServerRuns.{Asked}
use Rattle.hb_coord.specs.Standing.{IsLog, IsUp, IsBetween, asking}
use Rattle.hb_coord.specs.Starts.{IsBadAt}
use Rattle.hb_coord.specs.declared.state.State.{State}
use Rattle.hb_coord.specs.declared.state.State.TheVariants.{Down, Up, Away}

-- each image that a stop leaves now is the log of a stopped coordinator to which the calls lead
pub record IsDown {D : Type 0} (content : D → Option Image) (left : D → ℕ → Image → Type 0) (last : D → ℕ) (first : CState) (trail : List Asked) (disk : D) (moment : ℕ) : Type 0 where
  pub told : is_some (content disk) ≡ true
  pub in_time : last disk ≤ moment
  pub each : (image : Image) → left disk (last disk) image → (items : List LogItem) × IsLog image items × CRun first trail (stopped_at items)

abbrev pub content_of : {D : Type 0} → (D → Option Image) → Fused D → Option Image
content_of content f = content f.inner

abbrev pub left_of : {D : Type 0} → (D → ℕ → Image → Type 0) → Fused D → ℕ → Image → Type 0
left_of left f = left f.inner

-- the calls of the trail lead from the first state to the one that the coordinator is in; of a stopped one the images choose
abbrev pub Explains : {D : Type 0} → (D → Option Image) → (D → ℕ → Image → Type 0) → (D → ℕ) → CState → List Asked → State D → ℕ → Type 0
Explains content left last first trail (Down disk) moment = IsDown (content_of content) (left_of left) (last_of last) first trail disk moment
Explains content left last first trail (Up running) moment = (k : CState) × CRun first trail k × IsUp (content_of content) (left_of left) (last_of last) k running moment
Explains content left last first trail Away moment = ⊥

-- a stop in this call leaves the log of a state to which the calls before it lead, or this with the record of the call
abbrev pub IsLeftIn : CState → List Asked → Request → Image → Type 0
IsLeftIn first trail q image = (k : CState) × CRun first trail k × IsBetween k q image

-- a stop since the call leaves the log of a state to which the calls before it lead, or these and this one
abbrev pub IsLeftBy : CState → List Asked → Request → Answer → Image → Type 0
IsLeftBy first trail q a image = ((k : CState) × CRun first trail k × IsLog image k.log) ⊎ ((k : CState) × CRun first (trail ++ asking q a ∷ []) k × IsLog image k.log)

-- ---- what every coordinator tells of its disk

abbrev pub has_open_log : {D : Type 0} → State D → Bool
has_open_log (Down disk) = true
has_open_log (Up running) = not running.log.closed
has_open_log Away = false

abbrev pub content_in : {D : Type 0} → (D → Option Image) → State D → Option Image
content_in content (Down disk) = content disk.inner
content_in content (Up running) = content running.log.disk.inner
content_in content Away = None

-- what a stop at a moment may leave
abbrev pub left_in : {D : Type 0} → (D → ℕ → Image → Type 0) → State D → ℕ → Image → Type 0
left_in left (Down disk) = left disk.inner
left_in left (Up running) = left running.log.disk.inner
left_in left Away = λ m image. ⊥

abbrev pub last_in : {D : Type 0} → (D → ℕ) → State D → ℕ
last_in last (Down disk) = last_of last disk
last_in last (Up running) = last_of last running.log.disk
last_in last Away = 0

-- how often a call of the disk has failed
abbrev pub faults_in : {D : Type 0} → (D → ℕ) → State D → ℕ
faults_in faults (Down disk) = faults_of faults disk
faults_in faults (Up running) = faults_of faults running.log.disk
faults_in faults Away = 0

-- how many calls of the disk are still made, where its fuse is armed
abbrev pub calls_left_in : {D : Type 0} → State D → Option ℕ
calls_left_in (Down disk) = disk.calls_left
calls_left_in (Up running) = running.log.disk.calls_left
calls_left_in Away = None

-- the log that is read has a bad record at this place
abbrev pub IsDamage : Option Image → Bool → ℕ → Type 0
IsDamage content area place = (area ≡ false) × IfSome content (λ read. IsBadAt read place)

-- how many calls of the disk a request makes at most
abbrev pub most_calls : Request → ℕ
most_calls request.Start = 5
most_calls (request.Begin owner) = 4
most_calls (request.Decide tx votes) = 4
most_calls _ = 0

-- ---- ends that may still come

abbrev pub is_active_in : {D : Type 0} → State D → ℕ → Bool
is_active_in (Up running) tx = contains nat_cmp running.ledger.active tx
is_active_in (Down disk) tx = false
is_active_in Away tx = false

abbrev pub is_up_in : {D : Type 0} → State D → Bool
is_up_in (Up running) = true
is_up_in (Down disk) = false
is_up_in Away = false

-- the Abort of each active transaction, and the Stop of a coordinator that is up
abbrev pub ends_in : {D : Type 0} → State D → ℕ
ends_in (Up running) = btree_set_len running.ledger.active + 1
ends_in (Down disk) = 0
ends_in Away = 0

-- those that come by this request
abbrev pub ended_by : {D : Type 0} → State D → Request → ℕ
ended_by state request.Stop = ends_in state
ended_by state (request.Abort tx) = if is_active_in state tx.0 then 1 else 0
ended_by state _ = 0

-- those that it may add
abbrev pub opened_by : Request → ℕ
opened_by (request.Begin owner) = 1
opened_by request.Start = 1
opened_by _ = 0
