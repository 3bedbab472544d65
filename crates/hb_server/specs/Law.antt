-- What a server keeps: a run explains it, and each image that a stop leaves.
use Rattle.std.specs.Prelude.{◌≡◌, ◌⊎◌, ℕ, ◌+◌, ◌<◌, ◌≤◌, max, Bool, true, false, is_some, List, [], ◌∷◌, ◌++◌, length, All, Option, Some, None, unwrap_or, ⊤}
use Rattle.hb_edge.specs.Fuses.{last_of}
use Rattle.hb_edge.specs.Images.{Image}
use Rattle.hb_edge.specs.Stops.{Leaves}
use Rattle.hb_edge.specs.declared.fused.Fused.{Fused}
use Rattle.hb_types.specs.declared.answer.Answer.{Answer}
use Rattle.hb_types.specs.declared.answer.Answer.TheVariants as answer
use Rattle.hb_types.specs.declared.change.LogItem.{LogItem}
use Rattle.hb_types.specs.declared.change.Stored.{Stored}
use Rattle.hb_types.specs.declared.request.Request.{Request}
use Rattle.hb_types.specs.declared.request.Request.TheVariants as request
use Rattle.hb_types.specs.declared.places.Place.{Place}
use Rattle.hb_disks.specs.LogPlaces.{end_behind}
use Rattle.hb_disks.specs.Points.{Point, no_point, at_point}
use Rattle.hb_disks.specs.Redo.{redo_from}
use Rattle.hb_runs.specs.Server.{SState}
use Rattle.hb_runs.specs.ServerRuns.{Asked, Run}
use Rattle.hb_laws.specs.RowOrder.{AreAscending}
use Rattle.hb_store.specs.declared.point.Point.{Point as Mark}
use Rattle.hb_store.specs.Meanings.{IsOn, IsStored, mark_of}
use Rattle.hb_force.specs.Kept.{Keeps}
use Rattle.hb_force.specs.Standing.{HasFrom, IsUp}
use Rattle.hb_node.specs.Laws.{serving, deciding, managing, HasLog, State as NodeState}
use Rattle.hb_server.specs.declared.state.Resting.{Resting}
use Rattle.hb_server.specs.declared.state.Serving.{Serving}
use Rattle.hb_server.specs.declared.state.State.{State}
use Rattle.hb_server.specs.declared.state.State.TheVariants.{Down, Up, Away}

abbrev pub asking : Request → Answer → Asked
asking q a = record { request = q; answer = a }

-- ---- where redo begins

abbrev pub from_of : Option Point → ℕ
from_of p = (unwrap_or p no_point).from

-- redo from the point over these records gives the state's base, and they end at its place
pub record IsBase (p : Option Point) (read : List LogItem) (first : SState) : Type 0 where
  pub gives : redo_from (at_point (unwrap_or p no_point)) read ≡ first.base
  pub ends : end_behind (from_of p) read ≡ first.place

-- redo can begin at this place: it is the log's beginning, or lies inside a log of at least 7 bytes
abbrev pub IsInside : ℕ → Image → Type 0
IsInside from image = (from ≡ 0) ⊎ ((from < length image) × (7 ≤ length image))

-- ---- disks of which each image that a stop leaves now has a fact

pub record Rests {D : Type 0} (content : D → Option Image) (left : D → ℕ → Image → Type 0) (last : D → ℕ) (P : Image → Type 0) (disk : D) (moment : ℕ) : Type 0 where
  pub told : is_some (content disk) ≡ true
  pub in_time : last disk ≤ moment
  pub each : (image : Image) → left disk (last disk) image → P image

-- the log of a stopped server to which the calls lead, behind what was read first
pub record IsStoppedLog (p : Option Point) (read : List LogItem) (first : SState) (trail : List Asked) (image : Image) : Type 0 where
  pub state : SState
  pub run : Run first trail state
  pub stopped : state.up ≡ false
  pub no_live : state.live ≡ []
  pub has : HasFrom (from_of p) image (read ++ state.log)
  pub inside : IsInside (from_of p) image

-- a stopped server
pub record IsDown {D : Type 0} (content : D → Option Image) (left : D → ℕ → Image → Type 0) (last : D → ℕ) (point_in : Image → Option Point → Type 0) (first : SState) (trail : List Asked) (log area : D) (moment : ℕ) : Type 0 where
  pub point : Option Point
  pub read : List LogItem
  pub base : IsBase point read first
  pub log_rests : Rests content left last (IsStoppedLog point read first trail) log moment
  pub area_rests : Rests content left last (λ image. point_in image point) area moment

-- a store whose rows are rows and ascend, with no room
abbrev pub IsFresh : {S : Type 0} → (S → List Stored) → (S → Place → ℕ) → S → Type 0
IsFresh rows room store = AreAscending (rows store) × All IsStored (rows store) × ((place : Place) → room store place ≡ 0)

-- a stopped server whose store has the rows of the point
pub record IsLoaded {D S : Type 0} (content : D → Option Image) (left : D → ℕ → Image → Type 0) (last : D → ℕ) (rows : S → List Stored) (keeps : S → Option Point → Image → Type 0) (staged : S → Image → Type 0) (first : SState) (trail : List Asked) (rest : Resting D S) (mark : Mark) (moment : ℕ) : Type 0 where
  pub point : Option Point
  pub read : List LogItem
  pub base : IsBase point read first
  pub mark_is : mark ≡ mark_of (unwrap_or point no_point)
  pub rows_are : rows rest.store ≡ (unwrap_or point no_point).rows
  pub log_rests : Rests content left last (IsStoppedLog point read first trail) rest.log moment
  pub on : IsOn keeps staged (content rest.area) (left rest.area (last rest.area)) rest.store point
  pub area_in_time : last rest.area ≤ moment

-- a server that is up
pub record IsServing {D S : Type 0} (content : D → Option Image) (left : D → ℕ → Image → Type 0) (last : D → ℕ) (rows : S → List Stored) (keeps : S → Option Point → Image → Type 0) (staged : S → Image → Type 0) (first : SState) (trail : List Asked) (serves : Serving D S) (moment : ℕ) : Type 0 where
  pub point : Option Point
  pub read : List LogItem
  pub base : IsBase point read first
  pub state : SState
  pub run : Run first trail state
  pub is_up : IsUp content left last rows (from_of point) read state serves.running moment
  pub inside : IsInside (from_of point) is_up.log.settled.image
  pub on : IsOn keeps staged (content serves.area) (left serves.area (last serves.area)) serves.running.store point
  pub area_in_time : last serves.area ≤ moment

-- the calls of the trail lead from the first state to the one that the server is in; of a stopped one the images choose
abbrev pub Explains : {D S : Type 0} → (D → Option Image) → (D → ℕ → Image → Type 0) → (D → ℕ) → (S → List Stored) → (S → Option Point → Image → Type 0) → (S → Image → Type 0) → (Image → Option Point → Type 0) → SState → List Asked → State D S → ℕ → Type 0
Explains content left last rows keeps staged point_in first trail (Down rest) moment = IsDown content left last point_in first trail rest.log rest.area moment
Explains content left last rows keeps staged point_in first trail (Up serves) moment = IsServing content left last rows keeps staged first trail serves moment
Explains content left last rows keeps staged point_in first trail Away moment = ⊥

-- ---- what a stop leaves

abbrev pub log_left : {D S : Type 0} → (D → ℕ → Image → Type 0) → State D S → ℕ → Image → Type 0
log_left left (Down rest) = left rest.log
log_left left (Up serves) = left serves.running.log.disk
log_left left Away = λ m image. ⊥

abbrev pub area_left : {D S : Type 0} → (D → ℕ → Image → Type 0) → State D S → ℕ → Image → Type 0
area_left left (Down rest) = left rest.area
area_left left (Up serves) = left serves.area
area_left left Away = λ m image. ⊥

abbrev pub last_in : {D S : Type 0} → (D → ℕ) → State D S → ℕ
last_in last (Down rest) = max (last rest.log) (last rest.area)
last_in last (Up serves) = max (last serves.running.log.disk) (last serves.area)
last_in last Away = 0

-- how often a call of its disks has failed
abbrev pub faults_in : {D S : Type 0} → (D → ℕ) → State D S → ℕ
faults_in faults (Down rest) = faults rest.log + faults rest.area
faults_in faults (Up serves) = faults serves.running.log.disk + faults serves.area
faults_in faults Away = 0

-- the log image has what a run of these calls makes
pub record IsLeft (first : SState) (trail : List Asked) (image : Image) : Type 0 where
  pub state : SState
  pub run : Run first trail state
  pub has : HasLog image (serving state)

-- What a call makes of a server that a run explained: the run with the call explains it now, and a stop since the start of the call
-- leaves a log of a run without the call or with it.
pub record Goes {D S : Type 0} (content : D → Option Image) (left : D → ℕ → Image → Type 0) (last : D → ℕ) (rows : S → List Stored) (keeps : S → Option Point → Image → Type 0) (staged : S → Image → Type 0) (point_in : Image → Option Point → Type 0) (first : SState) (trail : List Asked) (q : Request) (a : Answer) (old new : State D S) (before moment : ℕ) : Type 0 where
  pub explains : Explains content left last rows keeps staged point_in first (trail ++ asking q a ∷ []) new moment
  pub log : Leaves before (log_left left old) (log_left left new) (λ m image. IsLeft first trail image ⊎ IsLeft first (trail ++ asking q a ∷ []) image)
  pub area : Leaves before (area_left left old) (area_left left new) (λ m image. ⊤)

-- ---- what every server keeps

-- a server that is up has an open log, and a state that its branches stand for
abbrev pub IsFit : {D S : Type 0} → (S → List Stored) → (S → Place → ℕ) → State D S → Type 0
IsFit rows room (Down rest) = ⊤
IsFit rows room (Up serves) = (serves.running.log.closed ≡ false) × Keeps rows room serves.running
IsFit rows room Away = ⊥

-- an answer of a start that fails
abbrev pub is_refusal : Answer → Bool
is_refusal (answer.Fault area) = true
is_refusal (answer.Damaged area place) = true
is_refusal answer.NoMemory = true
is_refusal _ = false

-- a call that its trail leaves out: it changes nothing, and takes no memory
abbrev pub is_passed : Request → Answer → Bool
is_passed (request.Commit tx number) a = changes_none a
  where
    changes_none : Answer → Bool
    changes_none answer.Down = true
    changes_none answer.NoBranch = true
    changes_none answer.NotPrepared = true
    changes_none (answer.Low floor) = true
    changes_none _ = false
is_passed (request.Rollback tx) a = changes_none a
  where
    changes_none : Answer → Bool
    changes_none answer.Down = true
    changes_none answer.NoBranch = true
    changes_none _ = false
is_passed _ a = false

-- an answer whose copy takes memory
abbrev pub is_heavy : Answer → Bool
is_heavy (answer.Blocked p m holders) = true
is_heavy (answer.Row row) = true
is_heavy (answer.Rows rows) = true
is_heavy (answer.Keys keys) = true
is_heavy (answer.Started doubts) = true
is_heavy (answer.Waiting edges) = true
is_heavy (answer.Cycle edges) = true
is_heavy _ = false

-- the answer is told as it is, or, where its copy takes memory, as want of memory
abbrev pub IsTold : Answer → Answer → Type 0
IsTold a told = (told ≡ a) ⊎ ((is_heavy a ≡ true) × (told ≡ answer.NoMemory))

-- ---- disks with a fuse

abbrev pub content_of : {D : Type 0} → (D → Option Image) → Fused D → Option Image
content_of content f = content f.inner

abbrev pub left_of : {D : Type 0} → (D → ℕ → Image → Type 0) → Fused D → ℕ → Image → Type 0
left_of left f = left f.inner

-- a disk whose fuse is repaired
abbrev pub mended : {D : Type 0} → Fused D → Fused D
mended f = record { inner = f.inner; calls_left = None; failures = f.failures; failed_at = f.failed_at }

abbrev pub mended_in : {D S : Type 0} → State (Fused D) S → State (Fused D) S
mended_in (Down rest) = Down (record { log = mended rest.log; area = mended rest.area; store = rest.store })
mended_in (Up serves) = Up serves
mended_in Away = Away

-- a disk whose fuse lets so many calls pass
abbrev pub armed : {D : Type 0} → ℕ → Fused D → Fused D
armed k f = record { inner = f.inner; calls_left = Some k; failures = f.failures; failed_at = f.failed_at }

abbrev pub armed_in : {D S : Type 0} → Bool → ℕ → State (Fused D) S → State (Fused D) S
armed_in true k (Down rest) = Down (record { log = rest.log; area = armed k rest.area; store = rest.store })
armed_in false k (Down rest) = Down (record { log = armed k rest.log; area = rest.area; store = rest.store })
armed_in true k (Up serves) = Up (record { running = serves.running; area = armed k serves.area })
armed_in false k (Up serves) = Up (record {
  running = record {
    log = record { disk = armed k serves.running.log.disk; end = serves.running.log.end; items = serves.running.log.items; closed = serves.running.log.closed };
    store = serves.running.store;
    engine = serves.running.engine;
  };
  area = serves.area;
})
armed_in area k Away = Away

-- what explains a server as a node: a run from a server's state, of a dictionary server or a back end
abbrev pub ExplainsNode : {D S : Type 0} → (D → Option Image) → (D → ℕ → Image → Type 0) → (D → ℕ) → (S → List Stored) → (S → Option Point → Image → Type 0) → (S → Image → Type 0) → (Image → Option Point → Type 0) → ℕ → State (Fused D) S → NodeState → List Asked → Type 0
ExplainsNode content left last rows keeps staged point_in name state (serving first) asked =
    ((1 ≤ name) × (name ≤ 9)) × Explains (content_of content) (left_of left) (last_of last) rows keeps staged point_in first asked state (last_in (last_of last) state)
ExplainsNode content left last rows keeps staged point_in name state (deciding k) asked = ⊥
ExplainsNode content left last rows keeps staged point_in name state (managing b) asked = ⊥

-- a stop at a moment may leave these images on its log and its area disk
abbrev pub leaves_in : {D S : Type 0} → (D → ℕ → Image → Type 0) → State (Fused D) S → ℕ → Image → Image → Type 0
leaves_in left state m log area = log_left (left_of left) state m log × area_left (left_of left) state m area
