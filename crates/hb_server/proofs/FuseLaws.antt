-- A fuse that is armed changes nothing of what is told of a server.
use Rattle.std.proofs.Common.{◌≡◌, ℕ, List, refl, sym, subst, true, false}
use mathlib.Core.HLevel.{×_prop, ⊥_prop, Unit-prop}
use mathlib.Core.Logic.{∥∥₁_map, ∥∥₁_prop}
use Rattle.std.proofs.Props.{props}
use Rattle.std.specs.Prelude.{Bool, Option}
use Rattle.hb_edge.specs.Fuses.{last_of, faults_of}
use Rattle.hb_edge.specs.Images.{Image}
use Rattle.hb_edge.specs.declared.fused.Fused.{Fused}
use Rattle.hb_types.specs.declared.change.Stored.{Stored}
use Rattle.hb_types.specs.declared.places.Place.{Place}
use Rattle.hb_disks.specs.Points.{Point}
use Rattle.hb_runs.specs.Server.{SState}
use Rattle.hb_runs.specs.ServerRuns.{Asked}
use Rattle.hb_node.specs.Laws.{State as NodeState, serving, deciding, managing}
use Rattle.hb_server.specs.declared.state.State.{State}
use Rattle.hb_server.specs.declared.state.State.TheVariants.{Down, Up, Away}
use Rattle.hb_server.specs.Law.{Explains, ExplainsNode, IsFit, armed_in, content_of, faults_in, last_in, leaves_in, left_of}

module _ {D S : Type 0} (content : D → Option Image) (left : D → ℕ → Image → Type 0) (last : D → ℕ) (rows : S → List Stored) (keeps : S → Option Point → Image → Type 0) (staged : S → Image → Type 0) (point_in : Image → Option Point → Type 0) (k : ℕ) where
  armed_explains : (area : Bool) (state : State (Fused D) S) (first : SState) (trail : List Asked) (moment : ℕ) → Explains (content_of content) (left_of left) (last_of last) rows keeps staged point_in first trail state moment
      → Explains (content_of content) (left_of left) (last_of last) rows keeps staged point_in first trail (armed_in area k state) moment
  armed_explains true (Down rest) first trail moment is = record {
    point = is.point;
    read = is.read;
    base = is.base;
    log_rests = is.log_rests;
    area_rests = record { told = is.area_rests.told; in_time = is.area_rests.in_time; each = is.area_rests.each };
  }
  armed_explains false (Down rest) first trail moment is = record {
    point = is.point;
    read = is.read;
    base = is.base;
    log_rests = record { told = is.log_rests.told; in_time = is.log_rests.in_time; each = is.log_rests.each };
    area_rests = is.area_rests;
  }
  armed_explains true (Up serves) first trail moment is = record {
    point = is.point;
    read = is.read;
    base = is.base;
    state = is.state;
    run = is.run;
    is_up = is.is_up;
    inside = is.inside;
    on = is.on;
    area_in_time = is.area_in_time;
  }
  armed_explains false (Up serves) first trail moment is = record {
    point = is.point;
    read = is.read;
    base = is.base;
    state = is.state;
    run = is.run;
    is_up = record {
      stands = is.is_up.stands;
      log = record {
        placed = is.is_up.log.placed;
        settled = record {
          image = is.is_up.log.settled.image;
          told = is.is_up.log.settled.told;
          records = is.is_up.log.settled.records;
          end = is.is_up.log.settled.end;
          inside = is.is_up.log.settled.inside;
          only = is.is_up.log.settled.only;
          is_open = is.is_up.log.settled.is_open;
        };
        items_are = is.is_up.log.items_are;
        in_time = is.is_up.log.in_time;
      };
      place_is = is.is_up.place_is;
    };
    inside = is.inside;
    on = is.on;
    area_in_time = is.area_in_time;
  }
  armed_explains area Away first trail moment is = is

  last_is : (area : Bool) (state : State (Fused D) S) → last_in (last_of last) (armed_in area k state) ≡ last_in (last_of last) state
  last_is true (Down rest) = refl
  last_is false (Down rest) = refl
  last_is true (Up serves) = refl
  last_is false (Up serves) = refl
  last_is area Away = refl

  pub armed_node : (area : Bool) (name : ℕ) (state : State (Fused D) S) (origin : NodeState) (asked : List Asked) → ExplainsNode content left last rows keeps staged point_in name state origin asked → ExplainsNode content left last rows keeps staged point_in name (armed_in area k state) origin asked
  armed_node area name state (serving first) asked is = (
    is.0,
    subst (λ (n : ℕ). Explains (content_of content) (left_of left) (last_of last) rows keeps staged point_in first asked (armed_in area k state) n) (sym (last_is area state)) (armed_explains area state first asked (last_in (last_of last) state) is.1),
  )
  armed_node area name state (deciding x) asked is = absurd is
  armed_node area name state (managing b) asked is = absurd is

  pub armed_leaves : (area : Bool) (state : State (Fused D) S) (m : ℕ) (log_image area_image : Image) → leaves_in left (armed_in area k state) m log_image area_image → leaves_in left state m log_image area_image
  armed_leaves true (Down rest) m log_image area_image is = is
  armed_leaves false (Down rest) m log_image area_image is = is
  armed_leaves true (Up serves) m log_image area_image is = is
  armed_leaves false (Up serves) m log_image area_image is = is
  armed_leaves area Away m log_image area_image is = is

  pub armed_last : (area : Bool) (state : State (Fused D) S) → last_in (last_of last) (armed_in area k state) ≡ last_in (last_of last) state
  armed_last area state = last_is area state

pub armed_faults : {D S : Type 0} (faults : D → ℕ) (k : ℕ) (area : Bool) (state : State (Fused D) S) → faults_in (faults_of faults) (armed_in area k state) ≡ faults_in (faults_of faults) state
armed_faults faults k true (Down rest) = refl
armed_faults faults k false (Down rest) = refl
armed_faults faults k true (Up serves) = refl
armed_faults faults k false (Up serves) = refl
armed_faults faults k area Away = refl

pub armed_fit : {D S : Type 0} (rows : S → List Stored) (room : S → Place → ℕ) (k : ℕ) (area : Bool) (state : State (Fused D) S) → IsFit rows room state → IsFit rows room (armed_in area k state)
armed_fit rows room k true (Down rest) fit = tt
armed_fit rows room k false (Down rest) fit = tt
armed_fit rows room k true (Up serves) fit = fit
armed_fit rows room k false (Up serves) fit = (fit.0, ∥∥₁_map fit.1 (λ k. record { state = k.state; stands = k.stands; sound = k.sound; end_is = k.end_is; has_room = k.has_room; rooms = k.rooms }))
armed_fit rows room k area Away fit = fit

-- ---- a fit server is so in one way

pub fit_once : {D S : Type 0} (rows : S → List Stored) (room : S → Place → ℕ) (state : State D S) → IsProp (IsFit rows room state)
fit_once rows room (Down rest) = Unit-prop
fit_once rows room (Up serves) = ×_prop (hlevel props) ∥∥₁_prop
fit_once rows room Away = ⊥_prop
