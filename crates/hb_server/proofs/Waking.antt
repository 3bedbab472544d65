-- A Start: both disks are restarted, the point is loaded, and the log is opened.
use Rattle.std.proofs.Common.{◌≡◌, inl, ℕ, ◌≤◌, max, List, [], ◌∷◌, ◌++◌, ◌∙◌, ap, subst, arith, true}
use Rattle.std.specs.Prelude.{Option, Some, None, IfSome, is_some, ⊤, ◌⊎◌, unwrap_or}
use Rattle.hb_edge.specs.Images.{Image, Same}
use Rattle.hb_edge.specs.Moments.{tick}
use Rattle.hb_edge.specs.Runs.{weaker}
use Rattle.hb_edge.specs.Stops.{Leaves, Only, Passes}
use Rattle.hb_types.specs.declared.answer.Answer.{Answer}
use Rattle.hb_types.specs.declared.change.Stored.{Stored}
use Rattle.hb_types.specs.declared.request.Request.TheVariants as request
use Rattle.hb_disks.specs.Points.{Point, no_point}
use Rattle.hb_runs.specs.Server.{SState}
use Rattle.hb_runs.specs.ServerRuns.{Asked}
use Rattle.hb_store.specs.declared.point.Point.{Point as Mark}
use Rattle.hb_store.specs.Meanings.{HoldsSame, IsOn, mark_of}
use Rattle.hb_server.specs.declared.state.Resting.{Resting}
use Rattle.hb_server.specs.declared.state.State.{State}
use Rattle.hb_server.specs.declared.state.State.TheVariants.{Down}
use Rattle.hb_server.specs.Law.{Goes, Rests, IsStoppedLog, IsDown, IsLoaded, IsLeft, area_left, asking, is_refusal, log_left}
use Rattle.hb_server.proofs.Rest.{leaves_then, read_has, rests_then, same_leaves, told_some}
use Rattle.hb_server.proofs.Runs.{failed_turn}
use Rattle.hb_server.proofs.Stops.{down_more, stopped_left}

-- nothing is pending after a restart
pub quiet_of : (o : Option Image) (left : ℕ → Image → Type 0) (n last : ℕ) → last ≡ n → IfSome o (Only left n) → IfSome o (λ read. (image : Image) → left last image → image ≡ read)
quiet_of None left n last is only = tt
quiet_of (Some read) left n last is only = λ image l. only last image (omega (arith, is)) l

-- a restart, done or not
pub restarted : {D : Type 0} (content : D → Option Image) (left : D → ℕ → Image → Type 0) (last : D → ℕ) (P : Image → Type 0) (old : D) (before : ℕ) → Rests content left last P old before → (new : D) (then : ℕ)
    → ((m : ℕ) (image : Image) → last old ≤ m → left old m image → left old (last old) image) → ((m : ℕ) (image : Image) → last new ≤ m → left new (last new) image → left new m image)
    → then ≡ tick before → last new ≡ max (last old) then → is_some (content new) ≡ is_some (content old) → Passes Same then (last old) (left old) (left new)
    → Leaves before (left old) (left new) (λ m image. P image) × Rests content left last P new then
restarted content left last P old before rests new then stands stands_on ticks is_last told passes =
    let leaves = same_leaves content left last P old before rests new then stands ticks passes in
    let time = rests.in_time in
    (leaves, rests_then content left last P old before rests new then stands_on leaves told (omega (arith, time, ticks, is_last)))

-- the loading of a point, done or not
pub loading : {D : Type 0} (content : D → Option Image) (left : D → ℕ → Image → Type 0) (last : D → ℕ) (point_in : Image → Option Point → Type 0) (p : Option Point) (old : D) (before : ℕ) → Rests content left last (λ image. point_in image p) old before → (new : D) (after : ℕ)
    → ((m : ℕ) (image : Image) → last new ≤ m → left new (last new) image → left new m image) → IfSome (content old) (left old (last old))
    → ((read : Image) → content old ≡ Some read → last old ≤ before → Leaves before (left old) (left new) (λ m image. HoldsSame point_in read image)) → is_some (content new) ≡ is_some (content old) → (last old ≤ before → last new ≤ after)
    → Leaves before (left old) (left new) (λ m image. point_in image p) × Rests content left last (λ image. point_in image p) new after
loading content left last point_in p old before rests new after stands_on as_read stop told in_time =
    let r = told_some (content old) rests.told in
    let has = read_has content left last (λ image. point_in image p) old before rests r.0 as_read r.1 in
    let leaves = weaker before (left old) (left new) _ (λ m image. point_in image p) (λ m image le same. (same p).0 has) (stop r.0 r.1 rests.in_time) in
    (leaves, rests_then content left last (λ image. point_in image p) old before rests new after stands_on leaves told (in_time rests.in_time))

-- one disk's calls, as a part of a longer run
pub later_leaves : (from middle last : ℕ) (old new : ℕ → Image → Type 0) (P : ℕ → Image → Type 0) → from ≤ middle → ((m : ℕ) (image : Image) → last ≤ m → old m image → old last image) → last ≤ from → Leaves middle old new P → Leaves from old new (λ m image. ⊤)
later_leaves from middle last old new P le stands in_time leaves = record {
  each = λ m image from_le is. tt;
  before = λ m image lt is. leaves.before m image (omega (arith, lt, le)) is;
  keeps = λ m image lt is. leaves.keeps m image (omega (arith, lt, le)) is;
}

pub any_leaves : (from : ℕ) (old new : ℕ → Image → Type 0) (P : ℕ → Image → Type 0) → Leaves from old new P → Leaves from old new (λ m image. ⊤)
any_leaves from old new P leaves = weaker from old new P (λ m image. ⊤) (λ m image le is. tt) leaves

module _ {D S : Type 0} (content : D → Option Image) (left : D → ℕ → Image → Type 0) (last : D → ℕ) (rows : S → List Stored) (keeps : S → Option Point → Image → Type 0) (staged : S → Image → Type 0) (point_in : Image → Option Point → Type 0)
    (first : SState) (trail : List Asked) (rest : Resting D S) (before : ℕ) (down : IsDown content left last point_in first trail rest.log rest.area before) where
  -- a start that fails
  pub refuses : (a : Answer) (new : Resting D S) (after : ℕ) → is_refusal a ≡ true → Leaves before (left rest.log) (left new.log) (λ m image. IsStoppedLog down.point down.read first trail image) → Leaves before (left rest.area) (left new.area) (λ m image. ⊤)
      → Rests content left last (IsStoppedLog down.point down.read first trail) new.log after → Rests content left last (λ image. point_in image down.point) new.area after
      → Goes content left last rows keeps staged point_in first trail request.Start a (Down rest) (Down new) before after
  refuses a new after refusal log area log_rests area_rests = record {
    explains = down_more content left last point_in first trail request.Start a new.log new.area after (λ t stopped. failed_turn t a stopped refusal) (record {
      point = down.point;
      read = down.read;
      base = down.base;
      log_rests = log_rests;
      area_rests = area_rests;
    });
    log = weaker before (left rest.log) (left new.log) _ (λ m image. IsLeft first trail image ⊎ IsLeft first (trail ++ asking request.Start a ∷ []) image) (λ m image le is. inl (stopped_left down.point down.read first trail image down.base is)) log;
    area = area;
  }

  -- the point is loaded
  pub loads : (new : Resting D S) (mark : Mark) (after : ℕ) (read : Image) → point_in read down.point → ((image : Image) (p q : Option Point) → point_in image p → point_in image q → p ≡ q)
      → (p : Option Point) × point_in read p × (mark ≡ mark_of (unwrap_or p no_point)) × (rows new.store ≡ (unwrap_or p no_point).rows) × IsOn keeps staged (content new.area) (left new.area (last new.area)) new.store p
      → Rests content left last (IsStoppedLog down.point down.read first trail) new.log after → last new.area ≤ after → IsLoaded content left last rows keeps staged first trail new mark after
  loads new mark after read has one found log_rests in_time =
      let same : found.0 ≡ down.point = one read found.0 down.point found.1 has in
      record {
        point = down.point;
        read = down.read;
        base = down.base;
        mark_is = found.2 ∙ ap (λ (p : Option Point). mark_of (unwrap_or p no_point)) same;
        rows_are = found.3 ∙ ap (λ (p : Option Point). (unwrap_or p no_point).rows) same;
        log_rests = log_rests;
        on = subst (λ (p : Option Point). IsOn keeps staged (content new.area) (left new.area (last new.area)) new.store p) same found.4;
        area_in_time = in_time;
      }

  -- and then the log is opened
  pub goes_on : (a : Answer) (mid : Resting D S) (new : State D S) (middle after : ℕ) → before ≤ middle → Leaves before (left rest.log) (left mid.log) (λ m image. IsStoppedLog down.point down.read first trail image) → Leaves before (left rest.area) (left mid.area) (λ m image. ⊤)
      → Goes content left last rows keeps staged point_in first trail request.Start a (Down mid) new middle after → Goes content left last rows keeps staged point_in first trail request.Start a (Down rest) new before after
  goes_on a mid new middle after le log area then = record {
    explains = then.explains;
    log = leaves_then before middle (left rest.log) (left mid.log) (log_left left new) (λ m image. IsLeft first trail image ⊎ IsLeft first (trail ++ asking request.Start a ∷ []) image) le
        (weaker before (left rest.log) (left mid.log) _ (λ m image. IsLeft first trail image ⊎ IsLeft first (trail ++ asking request.Start a ∷ []) image) (λ m image le is. inl (stopped_left down.point down.read first trail image down.base is)) log) then.log;
    area = leaves_then before middle (left rest.area) (left mid.area) (area_left left new) (λ m image. ⊤) le area then.area;
  }
