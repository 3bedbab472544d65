-- A call as a node has it: an answer that isn't had twice, a moment of the clock, and repaired fuses.
use Rattle.std.proofs.Common.{◌≡◌, inl, inr, ℕ, ◌≤◌, max, List, [], ◌∷◌, ◌++◌, refl, sym, subst, arith, true, false}
use Rattle.std.specs.Prelude.{Bool, ℤ, Option, None, ◌⊎◌}
use Rattle.std.proofs.lemmas.Bool.{false≢true}
use Rattle.hb_edge.specs.Fuses.{last_of, faults_of}
use Rattle.hb_edge.specs.Images.{Image}
use Rattle.hb_edge.specs.Runs.{weaker}
use Rattle.hb_edge.specs.declared.fused.Fused.{Fused}
use Rattle.hb_types.specs.declared.answer.Answer.{Answer}
use Rattle.hb_types.specs.declared.answer.Edge.{Edge}
use Rattle.hb_types.specs.declared.answer.Answer.TheVariants as answer
use Rattle.hb_types.specs.declared.change.LogItem.{LogItem}
use Rattle.hb_types.specs.declared.change.Stored.{Stored}
use Rattle.hb_types.specs.declared.lock.Holder.{Holder}
use Rattle.hb_types.specs.declared.lock.Mode.{Mode}
use Rattle.hb_types.specs.declared.names.Tx.{Tx}
use Rattle.hb_types.specs.declared.places.Path.{Path}
use Rattle.hb_types.specs.declared.places.Place.{Place}
use Rattle.hb_types.specs.declared.request.Request.{Request}
use Rattle.hb_types.specs.declared.request.Request.TheVariants as request
use Rattle.hb_disks.specs.Points.{Point}
use Rattle.hb_runs.specs.Server.{SState}
use Rattle.hb_runs.specs.ServerEffects.{Effect}
use Rattle.hb_runs.specs.ServerCauses.{Causes}
use Rattle.hb_runs.specs.ServerAnswers.{RightIn}
use Rattle.hb_runs.specs.ServerRuns.{Asked, Run, Turns}
use Rattle.hb_server.specs.declared.state.State.{State}
use Rattle.hb_server.specs.declared.state.State.TheVariants.{Down, Up, Away}
use Rattle.hb_server.specs.Law.{Explains, Goes, IsBase, IsFit, IsLeft, IsStoppedLog, IsTold, Rests, asking, content_of, faults_in, is_heavy, last_in, left_of, mended_in}

-- ---- an answer that isn't had twice

-- what is so of want of memory in its place
abbrev Held : Bool → SState → Request → Answer → Type 0
Held up s q a = (es : List Effect) → RightIn up s q a → Causes s q a es → Causes s q answer.NoMemory es × RightIn up s q answer.NoMemory

up_row : (s : SState) (q : Request) (x : Option (List ℕ)) → Held true s q (answer.Row x)
up_row s (request.Commit tx n) x es right causes = absurd right
up_row s (request.Rollback tx) x es right causes = absurd right
up_row s request.Stop x es right causes = absurd right
up_row s request.Start x es right causes = absurd right
up_row s (request.Lock tx p m) x es right causes = absurd right
up_row s _ x es right causes = (causes, refl)

down_row : (s : SState) (q : Request) (x : Option (List ℕ)) → Held false s q (answer.Row x)
down_row s request.Start x es right causes = absurd right
down_row s _ x es right causes = absurd right

up_rows : (s : SState) (q : Request) (x : List Stored) → Held true s q (answer.Rows x)
up_rows s (request.Commit tx n) x es right causes = absurd right
up_rows s (request.Rollback tx) x es right causes = absurd right
up_rows s request.Stop x es right causes = absurd right
up_rows s request.Start x es right causes = absurd right
up_rows s (request.Lock tx p m) x es right causes = absurd right
up_rows s _ x es right causes = (causes, refl)

down_rows : (s : SState) (q : Request) (x : List Stored) → Held false s q (answer.Rows x)
down_rows s request.Start x es right causes = absurd right
down_rows s _ x es right causes = absurd right

up_keys : (s : SState) (q : Request) (x : List ℤ) → Held true s q (answer.Keys x)
up_keys s (request.Commit tx n) x es right causes = absurd right
up_keys s (request.Rollback tx) x es right causes = absurd right
up_keys s request.Stop x es right causes = absurd right
up_keys s request.Start x es right causes = absurd right
up_keys s (request.Lock tx p m) x es right causes = absurd right
up_keys s _ x es right causes = (causes, refl)

down_keys : (s : SState) (q : Request) (x : List ℤ) → Held false s q (answer.Keys x)
down_keys s request.Start x es right causes = absurd right
down_keys s _ x es right causes = absurd right

up_waiting : (s : SState) (q : Request) (x : List Edge) → Held true s q (answer.Waiting x)
up_waiting s (request.Commit tx n) x es right causes = absurd right
up_waiting s (request.Rollback tx) x es right causes = absurd right
up_waiting s request.Stop x es right causes = absurd right
up_waiting s request.Start x es right causes = absurd right
up_waiting s (request.Lock tx p m) x es right causes = absurd right
up_waiting s _ x es right causes = (causes, refl)

down_waiting : (s : SState) (q : Request) (x : List Edge) → Held false s q (answer.Waiting x)
down_waiting s request.Start x es right causes = absurd right
down_waiting s _ x es right causes = absurd right

up_cycle : (s : SState) (q : Request) (x : List Edge) → Held true s q (answer.Cycle x)
up_cycle s (request.Commit tx n) x es right causes = absurd right
up_cycle s (request.Rollback tx) x es right causes = absurd right
up_cycle s request.Stop x es right causes = absurd right
up_cycle s request.Start x es right causes = absurd right
up_cycle s (request.Lock tx p m) x es right causes = absurd right
up_cycle s _ x es right causes = (causes, refl)

down_cycle : (s : SState) (q : Request) (x : List Edge) → Held false s q (answer.Cycle x)
down_cycle s request.Start x es right causes = absurd right
down_cycle s _ x es right causes = absurd right

up_blocked : (s : SState) (q : Request) (path : Path) (mode : Mode) (holders : List Holder) → Held true s q (answer.Blocked path mode holders)
up_blocked s (request.Lock tx p m) path mode holders es right causes = ((causes.front, causes.rung ∷ causes.back, causes.parts, causes.effects), refl)
up_blocked s (request.Commit tx n) path mode holders es right causes = absurd right
up_blocked s (request.Rollback tx) path mode holders es right causes = absurd right
up_blocked s request.Stop path mode holders es right causes = absurd right
up_blocked s request.Start path mode holders es right causes = absurd right
up_blocked s _ path mode holders es right causes = (causes, refl)

down_blocked : (s : SState) (q : Request) (path : Path) (mode : Mode) (holders : List Holder) → Held false s q (answer.Blocked path mode holders)
down_blocked s request.Start path mode holders es right causes = absurd right
down_blocked s _ path mode holders es right causes = absurd right

up_started : (s : SState) (q : Request) (found : List Tx) → Held true s q (answer.Started found)
up_started s (request.Commit tx n) found es right causes = absurd right
up_started s (request.Rollback tx) found es right causes = absurd right
up_started s request.Stop found es right causes = absurd right
up_started s request.Start found es right causes = absurd right
up_started s (request.Lock tx p m) found es right causes = absurd right
up_started s _ found es right causes = (causes, refl)

down_started : (s : SState) (q : Request) (found : List Tx) → Held false s q (answer.Started found)
down_started s request.Start found es right causes = (inr causes, tt)
down_started s _ found es right causes = absurd right

held : (up : Bool) (s : SState) (q : Request) (a : Answer) → is_heavy a ≡ true → Held up s q a
held true s q (answer.Row x) is = up_row s q x
held true s q (answer.Rows x) is = up_rows s q x
held true s q (answer.Keys x) is = up_keys s q x
held true s q (answer.Waiting x) is = up_waiting s q x
held true s q (answer.Cycle x) is = up_cycle s q x
held true s q (answer.Blocked p m holders) is = up_blocked s q p m holders
held true s q (answer.Started found) is = up_started s q found
held true s q _ is = absurd (false≢true is)
held false s q (answer.Row x) is = down_row s q x
held false s q (answer.Rows x) is = down_rows s q x
held false s q (answer.Keys x) is = down_keys s q x
held false s q (answer.Waiting x) is = down_waiting s q x
held false s q (answer.Cycle x) is = down_cycle s q x
held false s q (answer.Blocked p m holders) is = down_blocked s q p m holders
held false s q (answer.Started found) is = down_started s q found
held false s q _ is = absurd (false≢true is)

wanting : (q : Request) (a : Answer) → is_heavy a ≡ true → (s t : SState) → Turns s (asking q a) t → Turns s (asking q answer.NoMemory) t
wanting q a heavy s t turn =
    let both = held s.up s q a heavy turn.effects turn.right turn.causes in
    record { effects = turn.effects; causes = both.0; right = both.1; steps = turn.steps }

module _ (q : Request) (a b : Answer) (swap : (s t : SState) → Turns s (asking q a) t → Turns s (asking q b) t) where
  swapped : (trail : List Asked) (s t : SState) → Run s (trail ++ asking q a ∷ []) t → Run s (trail ++ asking q b ∷ []) t
  swapped [] s t run = (run.0, swap s run.0 run.1, run.2)
  swapped (c ∷ trail) s t run = (run.0, run.1, swapped trail run.0 t run.2)

  swapped_left : (first : SState) (trail : List Asked) (image : Image) → IsLeft first (trail ++ asking q a ∷ []) image → IsLeft first (trail ++ asking q b ∷ []) image
  swapped_left first trail image left = record { state = left.state; run = swapped trail first left.state left.run; has = left.has }

  module _ {D S : Type 0} (content : D → Option Image) (left : D → ℕ → Image → Type 0) (last : D → ℕ) (rows : S → List Stored) (keeps : S → Option Point → Image → Type 0) (staged : S → Image → Type 0) (point_in : Image → Option Point → Type 0) (first : SState) (trail : List Asked) where
    swapped_explains : (state : State D S) (moment : ℕ) → Explains content left last rows keeps staged point_in first (trail ++ asking q a ∷ []) state moment → Explains content left last rows keeps staged point_in first (trail ++ asking q b ∷ []) state moment
    swapped_explains (Down rest) moment is = record {
      point = is.point;
      read = is.read;
      base = is.base;
      log_rests = record {
        told = is.log_rests.told;
        in_time = is.log_rests.in_time;
        each = λ image l.
            let log = is.log_rests.each image l in
            record { state = log.state; run = swapped trail first log.state log.run; stopped = log.stopped; no_live = log.no_live; has = log.has; inside = log.inside };
      };
      area_rests = is.area_rests;
    }
    swapped_explains (Up serves) moment is = record {
      point = is.point;
      read = is.read;
      base = is.base;
      state = is.state;
      run = swapped trail first is.state is.run;
      is_up = is.is_up;
      inside = is.inside;
      on = is.on;
      area_in_time = is.area_in_time;
    }
    swapped_explains Away moment is = absurd is

    swapped_goes : (old new : State D S) (before moment : ℕ) → Goes content left last rows keeps staged point_in first trail q a old new before moment → Goes content left last rows keeps staged point_in first trail q b old new before moment
    swapped_goes old new before moment goes = record {
      explains = swapped_explains new moment goes.explains;
      log = weaker before _ _ _ _ (λ m image le l. by image l) goes.log;
      area = goes.area;
    }
      where
        by : (image : Image) → (IsLeft first trail image ⊎ IsLeft first (trail ++ asking q a ∷ []) image) → IsLeft first trail image ⊎ IsLeft first (trail ++ asking q b ∷ []) image
        by image (inl was) = inl was
        by image (inr now) = inr (swapped_left first trail image now)

-- the call as it is told
pub told_goes : {D S : Type 0} (content : D → Option Image) (left : D → ℕ → Image → Type 0) (last : D → ℕ) (rows : S → List Stored) (keeps : S → Option Point → Image → Type 0) (staged : S → Image → Type 0) (point_in : Image → Option Point → Type 0) (first : SState) (trail : List Asked) (q : Request) (a told : Answer) (old new : State D S) (before moment : ℕ)
    → IsTold a told → Goes content left last rows keeps staged point_in first trail q a old new before moment → Goes content left last rows keeps staged point_in first trail q told old new before moment
told_goes content left last rows keeps staged point_in first trail q a told old new before moment (inl same) goes = subst (λ (x : Answer). Goes content left last rows keeps staged point_in first trail q x old new before moment) (sym same) goes
told_goes content left last rows keeps staged point_in first trail q a told old new before moment (inr (heavy, none)) goes =
    subst (λ (x : Answer). Goes content left last rows keeps staged point_in first trail q x old new before moment) (sym none) (swapped_goes q a answer.NoMemory (wanting q a heavy) content left last rows keeps staged point_in first trail old new before moment goes)

-- ---- moments of the clock

pub at_moment : {D S : Type 0} (content : D → Option Image) (left : D → ℕ → Image → Type 0) (last : D → ℕ) (rows : S → List Stored) (keeps : S → Option Point → Image → Type 0) (staged : S → Image → Type 0) (point_in : Image → Option Point → Type 0) (first : SState) (trail : List Asked) (state : State D S) (m n : ℕ)
    → last_in last state ≤ n → Explains content left last rows keeps staged point_in first trail state m → Explains content left last rows keeps staged point_in first trail state n
at_moment content left last rows keeps staged point_in first trail (Down rest) m n le is = record {
  point = is.point;
  read = is.read;
  base = is.base;
  log_rests = record { told = is.log_rests.told; in_time = omega (arith, le); each = is.log_rests.each };
  area_rests = record { told = is.area_rests.told; in_time = omega (arith, le); each = is.area_rests.each };
}
at_moment content left last rows keeps staged point_in first trail (Up serves) m n le is = record {
  point = is.point;
  read = is.read;
  base = is.base;
  state = is.state;
  run = is.run;
  is_up = record {
    stands = is.is_up.stands;
    log = record { placed = is.is_up.log.placed; settled = is.is_up.log.settled; items_are = is.is_up.log.items_are; in_time = omega (arith, le) };
    place_is = is.is_up.place_is;
  };
  inside = is.inside;
  on = is.on;
  area_in_time = omega (arith, le);
}
at_moment content left last rows keeps staged point_in first trail Away m n le is = is

-- ---- repaired fuses

module _ {D S : Type 0} (content : D → Option Image) (left : D → ℕ → Image → Type 0) (last : D → ℕ) (rows : S → List Stored) (keeps : S → Option Point → Image → Type 0) (staged : S → Image → Type 0) (point_in : Image → Option Point → Type 0) (first : SState) (trail : List Asked) where
  pub mended_explains : (state : State (Fused D) S) (moment : ℕ) → Explains (content_of content) (left_of left) (last_of last) rows keeps staged point_in first trail state moment → Explains (content_of content) (left_of left) (last_of last) rows keeps staged point_in first trail (mended_in state) moment
  mended_explains (Down rest) moment is = record {
    point = is.point;
    read = is.read;
    base = is.base;
    log_rests = record { told = is.log_rests.told; in_time = is.log_rests.in_time; each = is.log_rests.each };
    area_rests = record { told = is.area_rests.told; in_time = is.area_rests.in_time; each = is.area_rests.each };
  }
  mended_explains (Up serves) moment is = is
  mended_explains Away moment is = is

  pub mended_goes : (state new : State (Fused D) S) (q : Request) (a : Answer) (before moment : ℕ) → Goes (content_of content) (left_of left) (last_of last) rows keeps staged point_in first trail q a (mended_in state) new before moment
      → Goes (content_of content) (left_of left) (last_of last) rows keeps staged point_in first trail q a state new before moment
  mended_goes (Down rest) new q a before moment goes = record { explains = goes.explains; log = goes.log; area = goes.area }
  mended_goes (Up serves) new q a before moment goes = goes
  mended_goes Away new q a before moment goes = goes

pub mended_fit : {D S : Type 0} (rows : S → List Stored) (room : S → Place → ℕ) (state : State (Fused D) S) → IsFit rows room state → IsFit rows room (mended_in state)
mended_fit rows room (Down rest) fit = tt
mended_fit rows room (Up serves) fit = fit
mended_fit rows room Away fit = fit

pub mended_faults : {D S : Type 0} (faults : D → ℕ) (state : State (Fused D) S) → faults_in (faults_of faults) (mended_in state) ≡ faults_in (faults_of faults) state
mended_faults faults (Down rest) = refl
mended_faults faults (Up serves) = refl
mended_faults faults Away = refl

pub mended_last : {D S : Type 0} (last : D → ℕ) (state : State (Fused D) S) → last_in (last_of last) (mended_in state) ≡ last_in (last_of last) state
mended_last last (Down rest) = refl
mended_last last (Up serves) = refl
mended_last last Away = refl

-- ---- a new server

fresh_rests : {D : Type 0} (content : D → Option Image) (left : D → ℕ → Image → Type 0) (last : D → ℕ) (P : Image → Type 0) (disk : D) (f : Fused D) (n : ℕ) → f ≡ record { inner = disk; calls_left = None; failures = 0; failed_at = 0 } → Rests content left last P disk (last disk) → last_of last f ≤ n
    → Rests (content_of content) (left_of left) (last_of last) P f n
fresh_rests {D} content left last P disk f n is rests le =
    subst (λ (g : Fused D). last_of last g ≤ n → Rests (content_of content) (left_of left) (last_of last) P g n) (sym is)
    (λ in_time. let same : max (last disk) 0 ≡ last disk = omega arith in record { told = rests.told; in_time = in_time; each = λ image l. rests.each image (subst (λ (m : ℕ). left disk m image) same l) }) le

pub begins : {D S : Type 0} (content : D → Option Image) (left : D → ℕ → Image → Type 0) (last : D → ℕ) (rows : S → List Stored) (keeps : S → Option Point → Image → Type 0) (staged : S → Image → Type 0) (point_in : Image → Option Point → Type 0) (first : SState) (p : Option Point) (read : List LogItem) (log area : D) (f g : Fused D) (store : S)
    → f ≡ record { inner = log; calls_left = None; failures = 0; failed_at = 0 } → g ≡ record { inner = area; calls_left = None; failures = 0; failed_at = 0 } → IsBase p read first
    → Rests content left last (IsStoppedLog p read first []) log (last log) → Rests content left last (λ image. point_in image p) area (last area)
    → Explains (content_of content) (left_of left) (last_of last) rows keeps staged point_in first [] (Down (record { log = f; area = g; store = store })) (max (last_of last f) (last_of last g))
begins content left last rows keeps staged point_in first p read log area f g store is_log is_area base log_rests area_rests = record {
  point = p;
  read = read;
  base = base;
  log_rests = fresh_rests content left last (IsStoppedLog p read first []) log f (max (last_of last f) (last_of last g)) is_log log_rests (omega arith);
  area_rests = fresh_rests content left last (λ image. point_in image p) area g (max (last_of last f) (last_of last g)) is_area area_rests (omega arith);
}
