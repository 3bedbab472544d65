-- The front end with its trail: what explains it, what its disk may hold, and the room of its trail.
use Rattle.std.specs.Prelude.{◌≡◌, ℕ, ◌+◌, ◌≤◌, Bool, true, false, not, is_some, List, [], Option, Some, None, IfSome, refl}
use Rattle.hb_edge.specs.Images.{Image}
use Rattle.hb_edge.specs.Fuses.{last_of}
use Rattle.hb_edge.specs.Wrapping.{read_later}
use Rattle.hb_types.specs.declared.answer.Answer.{Answer}
use Rattle.hb_types.specs.declared.answer.Answer.TheVariants as answer
use Rattle.hb_types.specs.declared.request.Request.{Request}
use Rattle.hb_types.specs.declared.request.Request.TheVariants as request
use Rattle.hb_runs.specs.Coordinator.{CState, CRun, stopped_at}
use Rattle.hb_runs.specs.ServerRuns.{Asked}
use Rattle.hb_coord.specs.Law.{Explains as ExplainsCoordinator, ended_by, ends_in, is_active_in, last_in, left_in, opened_by}
use Rattle.hb_coord.specs.declared.state.State.{State as CoordinatorState}
use Rattle.hb_coord.specs.declared.state.State.TheVariants.{Down, Up, Away}
use Rattle.hb_node.specs.Laws.{State, serving, deciding, managing, IsOfName, Runs}

-- the calls lead from the state to the one that the coordinator is in
abbrev pub Explains : {D : Type 0} → (D → Option Image) → (D → ℕ → Image → Type 0) → (D → ℕ) → CoordinatorState D → State → List Asked → Type 0
Explains content left last state (deciding k) asked = ExplainsCoordinator content left last k asked state (last_in last state)
Explains content left last state (serving s) asked = ⊥
Explains content left last state (managing b) asked = ⊥

-- its log's images; it has no area
abbrev pub leaves : {D : Type 0} → (D → ℕ → Image → Type 0) → CoordinatorState D → ℕ → Image → Image → Type 0
leaves left state m log area = left_in left state m log × (area ≡ [])

-- an Abort of a transaction that isn't active
abbrev pub ends_nothing : {D : Type 0} → CoordinatorState D → Request → Bool
ends_nothing state (request.Abort tx) = not (is_active_in state tx.0)
ends_nothing state _ = false

-- what such an Abort is answered
abbrev pub idle_answer : {D : Type 0} → CoordinatorState D → Answer
idle_answer (Up running) = answer.Done
idle_answer (Down disk) = answer.Down
idle_answer Away = answer.Down

-- room for the entry of a request, and for all Aborts and the Stop that may come behind it
abbrev pub HasRoomFor : {D : Type 0} → CoordinatorState D → Request → ℕ → Type 0
HasRoomFor state q spare = ends_in state + opened_by q + 1 ≤ spare + ended_by state q

-- ---- what explains it is a run

some_image : (content : Option Image) (P : Image → Type 0) → is_some content ≡ true → IfSome content P → (image : Image) × P image
some_image None P told has = cc
some_image (Some c) P told has = (c, has)

module _ {D : Type 0} (content : D → Option Image) (left : D → ℕ → Image → Type 0) (last : D → ℕ)
    (stands_on : (disk : D) (m : ℕ) (image : Image) → last disk ≤ m → left disk (last disk) image → left disk m image) (as_read : (disk : D) → IfSome (content disk) (left disk (last disk))) where
  explained_at : (state : CoordinatorState D) (first : CState) (asked : List Asked) → ExplainsCoordinator content left last first asked state (last_in last state) → (t : CState) × CRun first asked t
  explained_at (Up running) first asked (k, run, up) = (k, run)
  explained_at (Down disk) first asked down =
      let read = some_image (content disk.inner) (left disk.inner (last_of last disk)) down.told (read_later (content disk.inner) (left disk.inner) (last disk.inner) disk.failed_at (stands_on disk.inner) (as_read disk.inner)) in
      let found = down.each read.0 read.1 in
      (stopped_at found.0, found.2)
  explained_at Away first asked e = absurd e

  pub explained : (state : CoordinatorState D) (origin : State) (asked : List Asked) → Explains content left last state origin asked → IsOfName 0 origin × ((t : State) × Runs origin asked t)
  explained state (deciding k) asked e = let found = explained_at state k asked e in (refl, (deciding found.0, found.1))
  explained state (serving s) asked e = absurd e
  explained state (managing b) asked e = absurd e
