-- A call of the coordinator, as the node's law has it.
use Rattle.std.proofs.Common.{◌≡◌, ◌⊎◌, ℕ, ◌≤◌, List, [], ◌∷◌, ◌++◌, refl, true, sym, subst, arith, inl, inr}
use Rattle.std.specs.Prelude.{Option}
use Rattle.hb_edge.specs.Fuses.{last_of}
use Rattle.hb_edge.specs.Images.{Image}
use Rattle.hb_edge.specs.Stops.{Leaves}
use Rattle.hb_types.specs.declared.trail.TrailEntry.{TrailEntry}
use Rattle.hb_runs.specs.Coordinator.{CState, stopped_at}
use Rattle.hb_runs.specs.Kinds.{tells_nothing}
use Rattle.hb_runs.specs.ServerRuns.{Asked}
use Rattle.hb_node.specs.Laws.{State, serving, deciding, managing, Images, Explains as ExplainsImage, asked_in, asked_of}
use Rattle.hb_node.proofs.Trails.{asked-append}
use Rattle.hb_coord.specs.Law.{Explains as ExplainsCoordinator, IsLeftBy, IsLeftIn, content_of, left_of, last_in, left_in}
use Rattle.hb_coord.specs.Standing.{asking}
use Rattle.hb_coord.specs.declared.state.State.{State as CoordinatorState}
use Rattle.hb_coord.specs.declared.state.State.TheVariants.{Down, Up, Away}
use Rattle.hb_coord.proofs.Lawful.{fused_stands}
use Rattle.hb_coord.proofs.Logging.{log_left}
use Rattle.hb_front.specs.Fronting.{Explains, idle_answer, leaves}

-- what an Abort that ends nothing is answered tells nothing
pub idle_tells : {D : Type 0} (state : CoordinatorState D) → tells_nothing (idle_answer state) ≡ true
idle_tells (Up running) = refl
idle_tells (Down disk) = refl
idle_tells Away = refl

module _ {D : Type 0} (content : D → Option Image) (left : D → ℕ → Image → Type 0) (last : D → ℕ) where
  -- what explains the coordinator at a moment does at each that is not before the disk's last call
  later : (state : CoordinatorState D) (first : CState) (asked : List Asked) (m n : ℕ) → last_in last state ≤ n → ExplainsCoordinator content left last first asked state m → ExplainsCoordinator content left last first asked state n
  later (Up running) first asked m n le (k, run, up) = (
    k,
    run,
    record { up = up.up; own = up.own; is_reserved = up.is_reserved; reflects = up.reflects; log = record { placed = up.log.placed; settled = up.log.settled; items_are = up.log.items_are; in_time = le } },
  )
  later (Down disk) first asked m n le down = record { told = down.told; in_time = le; each = down.each }
  later Away first asked m n le e = absurd e

  pub explained_now : (state : CoordinatorState D) (first : CState) (m : ℕ) → ExplainsCoordinator content left last first [] state m → Explains content left last state (deciding first) []
  explained_now state first m e = later state first [] m (last_in last state) (omega arith) e

  module _ (stands : (disk : D) (m : ℕ) (image : Image) → last disk ≤ m → left disk m image → left disk (last disk) image) (stands_on : (disk : D) (m : ℕ) (image : Image) → last disk ≤ m → left disk (last disk) image → left disk m image) where
    now_left : (state : CoordinatorState D) (first : CState) (asked : List Asked) (m : ℕ) (image : Image) → ExplainsCoordinator content left last first asked state (last_in last state) → last_in last state ≤ m → left_in left state m image
        → ExplainsImage (deciding first) asked image
    now_left (Up running) first asked m image (k, run, up) le is = (
      deciding k,
      run,
      log_left (content_of content) (left_of left) (last_of last) k.log running.log (last_of last running.log.disk) m image (fused_stands left last running.log.disk (stands running.log.disk.inner) (stands_on running.log.disk.inner)) up.log le is,
    )
    now_left (Down disk) first asked m image down le is =
        let found = down.each image (fused_stands left last disk (stands disk.inner) (stands_on disk.inner) m image le is) in
        (deciding (stopped_at found.0), found.2, found.1.has_items)
    now_left Away first asked m image e le is = absurd e

    -- nothing was asked
    pub images_still : (state : CoordinatorState D) (origin : State) (trail : List TrailEntry) (e : TrailEntry) → Explains content left last state origin (asked_of trail) → last_in last state ≤ e.from → e.from ≤ e.to
        → Images origin trail trail e (leaves left state) (leaves left state)
    images_still state (deciding k) trail e is time order = record {
      before = λ m log area lt left. left;
      within = λ m log area le left. inl (now_left state k (asked_of trail) m log is (omega (arith, time, le)) left.0);
      after = λ m log area le left. now_left state k (asked_of trail) m log is (omega (arith, time, order, le)) left.0;
    }
    images_still state (serving s) trail e is time order = absurd is
    images_still state (managing b) trail e is time order = absurd is

    pub images_as_were : (old new : CoordinatorState D) (origin : State) (olds news : List TrailEntry) (e : TrailEntry) → new ≡ old → news ≡ olds → Explains content left last old origin (asked_of olds) → last_in last old ≤ e.from → e.from ≤ e.to
        → Images origin olds news e (leaves left old) (leaves left new)
    images_as_were old new origin olds news e same_state same is time order =
        subst (λ (s : CoordinatorState D). Images origin olds news e (leaves left old) (leaves left s)) (sym same_state)
        (subst (λ (l : List TrailEntry). Images origin olds l e (leaves left old) (leaves left old)) (sym same) (images_still old origin olds e is time order))

    module _ (old new : CoordinatorState D) (trail : List TrailEntry) (e : TrailEntry)
        (run : (first : CState) (asked : List Asked) → ExplainsCoordinator content left last first asked old e.from → ExplainsCoordinator content left last first (asked ++ asking e.request e.answer ∷ []) new e.to)
        (stop : (first : CState) (asked : List Asked) → ExplainsCoordinator content left last first asked old e.from → Leaves e.from (left_in left old) (left_in left new) (λ m image. IsLeftIn first asked e.request image))
        (by : (first : CState) (asked : List Asked) → ExplainsCoordinator content left last first asked old e.from → (m : ℕ) (image : Image) → e.from ≤ m → left_in left new m image → IsLeftBy first asked e.request e.answer image)
        (in_time : last_in last old ≤ e.from → last_in last new ≤ e.to) where
      pub law : (origin : State) → Explains content left last old origin (asked_of trail) → last_in last old ≤ e.from → Explains content left last new origin (asked_of (trail ++ e ∷ []))
      law (deciding k) is time =
          subst (λ (l : List Asked). ExplainsCoordinator content left last k l new (last_in last new)) (sym (asked-append trail e))
          (later new k (asked_of trail ++ asked_in e ∷ []) e.to (last_in last new) (omega arith) (run k (asked_of trail) (later old k (asked_of trail) (last_in last old) e.from time is)))
      law (serving s) is time = absurd is
      law (managing b) is time = absurd is

      either : (k : CState) (image : Image) → IsLeftBy k (asked_of trail) e.request e.answer image → ExplainsImage (deciding k) (asked_of trail) image ⊎ ExplainsImage (deciding k) (asked_of trail ++ asked_in e ∷ []) image
      either k image (inl (t, was, log)) = inl (deciding t, was, log.has_items)
      either k image (inr (t, now, log)) = inr (deciding t, now, log.has_items)

      pub images : (origin : State) → Explains content left last old origin (asked_of trail) → last_in last old ≤ e.from → Images origin trail (trail ++ e ∷ []) e (leaves left old) (leaves left new)
      images (deciding k) is time =
          let at_start = later old k (asked_of trail) (last_in last old) e.from time is in
          record {
            before = λ m log area lt left. ((stop k (asked_of trail) at_start).before m log lt left.0, left.1);
            within = λ m log area le left. either k log (by k (asked_of trail) at_start m log le left.0);
            after = λ m log area le left. now_left new k (asked_of (trail ++ e ∷ [])) m log (law (deciding k) is time) (omega (arith, in_time time, le)) left.0;
          }
      images (serving s) is time = absurd is
      images (managing b) is time = absurd is
