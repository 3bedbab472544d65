-- Calls that a stopped server answers, a Stop, and a fault.
use Rattle.std.proofs.Common.{◌≡◌, inl, inr, ℕ, ◌≤◌, List, [], ◌∷◌, ◌++◌, length, refl, sym, ap, subst, arith, false}
use Rattle.std.specs.Prelude.{Option, is_some}
use Rattle.hb_edge.specs.Images.{Image}
use Rattle.hb_edge.specs.Stops.{Leaves}
use Rattle.hb_types.specs.declared.answer.Answer.{Answer}
use Rattle.hb_types.specs.declared.answer.Answer.TheVariants as answer
use Rattle.hb_types.specs.declared.change.LogItem.{LogItem}
use Rattle.hb_types.specs.declared.change.Stored.{Stored}
use Rattle.hb_types.specs.declared.request.Request.{Request}
use Rattle.hb_types.specs.declared.request.Request.TheVariants as request
use Rattle.hb_disks.specs.Points.{Point}
use Rattle.hb_runs.specs.Server.{SState}
use Rattle.hb_runs.specs.ServerEffects.{happens, lost}
use Rattle.hb_runs.specs.ServerRuns.{Asked, Turns}
use Rattle.hb_force.proofs.Logging.{log_left}
use Rattle.hb_server.specs.declared.state.Serving.{Serving}
use Rattle.hb_server.specs.declared.state.State.{State}
use Rattle.hb_server.specs.declared.state.State.TheVariants.{Down, Up, Away}
use Rattle.hb_server.specs.Law.{Explains, last_in, log_left as left_of_log, IsStoppedLog, IsDown, IsServing, IsLeft, IsInside, IsBase, asking, from_of}
use Rattle.hb_server.proofs.Rest.{unmoved}
use Rattle.hb_server.proofs.Runs.{run_more, left_by, stop_turn}

-- a log that is left of a stopped server is one of the run
pub stopped_left : (p : Option Point) (read : List LogItem) (first : SState) (trail : List Asked) (image : Image) → IsBase p read first → IsStoppedLog p read first trail image → IsLeft first trail image
stopped_left p read first trail image base log = left_by p read first trail log.state image base log.run log.has

-- one call more that changes nothing
pub stopped_more : (p : Option Point) (read : List LogItem) (first : SState) (trail : List Asked) (q : Request) (a : Answer) (image : Image) → ((t : SState) → t.up ≡ false → Turns t (asking q a) t)
    → IsStoppedLog p read first trail image → IsStoppedLog p read first (trail ++ asking q a ∷ []) image
stopped_more p read first trail q a image turn log = record {
  state = log.state;
  run = run_more first trail log.state log.state (asking q a) log.run (turn log.state log.stopped);
  stopped = log.stopped;
  no_live = log.no_live;
  has = log.has;
  inside = log.inside;
}

pub inside_longer : (from : ℕ) (old new : Image) → IsInside from old → length old ≤ length new → IsInside from new
inside_longer from old new (inl zero) le = inl zero
inside_longer from old new (inr (within, long)) le = inr (omega (arith, within, le), omega (arith, long, le))

module _ {D : Type 0} (content : D → Option Image) (left : D → ℕ → Image → Type 0) (last : D → ℕ) (point_in : Image → Option Point → Type 0) (first : SState) (trail : List Asked) where
  -- a call that changes nothing of a stopped server
  pub down_more : (q : Request) (a : Answer) (log area : D) (moment : ℕ) → ((t : SState) → t.up ≡ false → Turns t (asking q a) t)
      → IsDown content left last point_in first trail log area moment → IsDown content left last point_in first (trail ++ asking q a ∷ []) log area moment
  down_more q a log area moment turn down = record {
    point = down.point;
    read = down.read;
    base = down.base;
    log_rests = record {
      told = down.log_rests.told;
      in_time = down.log_rests.in_time;
      each = λ image is. stopped_more down.point down.read first trail q a image turn (down.log_rests.each image is);
    };
    area_rests = down.area_rests;
  }

  pub down_leaves : (log area : D) (moment : ℕ) → ((m : ℕ) (image : Image) → last log ≤ m → left log m image → left log (last log) image) → IsDown content left last point_in first trail log area moment
      → Leaves moment (left log) (left log) (λ m image. IsLeft first trail image)
  down_leaves log area moment stands down =
      unmoved moment (last log) (left log) (λ m image. IsLeft first trail image) stands down.log_rests.in_time
      (λ m image is. stopped_left down.point down.read first trail image down.base (down.log_rests.each image is))

module _ {D S : Type 0} (content : D → Option Image) (left : D → ℕ → Image → Type 0) (last : D → ℕ) (rows : S → List Stored) (keeps : S → Option Point → Image → Type 0) (staged : S → Image → Type 0) (point_in : Image → Option Point → Type 0)
    (holds : (store : S) (p : Option Point) (image : Image) → keeps store p image → point_in image p) (first : SState) (trail : List Asked) (serves : Serving D S) (moment : ℕ) (is : IsServing content left last rows keeps staged first trail serves moment) where
  -- what a stop leaves of its log
  pub up_leaves : ((m : ℕ) (image : Image) → last serves.running.log.disk ≤ m → left serves.running.log.disk m image → left serves.running.log.disk (last serves.running.log.disk) image)
      → Leaves moment (left serves.running.log.disk) (left serves.running.log.disk) (λ m image. IsLeft first trail image)
  up_leaves stands =
      unmoved moment (last serves.running.log.disk) (left serves.running.log.disk) (λ m image. IsLeft first trail image) stands is.is_up.log.in_time
      (λ m image l. left_by is.point is.read first trail is.state image is.base is.run
      (log_left content left last (from_of is.point) (is.read ++ is.state.log) serves.running.log moment (last serves.running.log.disk) image stands is.is_up.log (omega arith) l))

  -- a Stop
  pub stops : ((m : ℕ) (image : Image) → last serves.running.log.disk ≤ m → left serves.running.log.disk m image → left serves.running.log.disk (last serves.running.log.disk) image)
      → IsDown content left last point_in first (trail ++ asking request.Stop answer.Done ∷ []) serves.running.log.disk serves.area moment
  stops stands = record {
    point = is.point;
    read = is.read;
    base = is.base;
    log_rests = record {
      told = ap is_some is.is_up.log.settled.told;
      in_time = is.is_up.log.in_time;
      each = λ image l. record {
        state = happens is.state lost;
        run = run_more first trail is.state (happens is.state lost) (asking request.Stop answer.Done) is.run (stop_turn is.state is.is_up.stands.up);
        stopped = refl;
        no_live = refl;
        has = log_left content left last (from_of is.point) (is.read ++ is.state.log) serves.running.log moment (last serves.running.log.disk) image stands is.is_up.log (omega arith) l;
        inside = subst (λ (i : Image). IsInside (from_of is.point) i) (sym (is.is_up.log.settled.only image l)) is.inside;
      };
    };
    area_rests = record {
      told = ap is_some is.on.told;
      in_time = is.area_in_time;
      each = λ image l. holds serves.running.store is.point image (is.on.each image l);
    };
  }

-- what a stop leaves of the log of a server that a run explains
pub explained_left : {D S : Type 0} (content : D → Option Image) (left : D → ℕ → Image → Type 0) (last : D → ℕ) (rows : S → List Stored) (keeps : S → Option Point → Image → Type 0) (staged : S → Image → Type 0) (point_in : Image → Option Point → Type 0)
    → ((disk : D) (m : ℕ) (image : Image) → last disk ≤ m → left disk m image → left disk (last disk) image) → (first : SState) (trail : List Asked) (state : State D S) (moment m : ℕ) (image : Image)
    → Explains content left last rows keeps staged point_in first trail state moment → last_in last state ≤ m → left_of_log left state m image → IsLeft first trail image
explained_left content left last rows keeps staged point_in stands first trail (Down rest) moment m image down le l =
    stopped_left down.point down.read first trail image down.base (down.log_rests.each image (stands rest.log m image (omega (arith, le)) l))
explained_left content left last rows keeps staged point_in stands first trail (Up serves) moment m image is le l =
    left_by is.point is.read first trail is.state image is.base is.run
    (log_left content left last (from_of is.point) (is.read ++ is.state.log) serves.running.log moment m image (stands serves.running.log.disk) is.is_up.log (omega (arith, le)) l)
explained_left content left last rows keeps staged point_in stands first trail Away moment m image is le l = absurd is
