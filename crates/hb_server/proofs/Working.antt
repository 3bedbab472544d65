-- A request of a server that is up.
use Rattle.std.proofs.Common.{◌≡◌, inl, inr, ℕ, ◌≤◌, max, List, [], ◌∷◌, ◌++◌, length, refl, ◌∙◌, ap, subst, arith, true, false}
use Rattle.std.specs.Prelude.{Option, is_some, ◌⊎◌}
use Rattle.std.proofs.lemmas.Bool.{false≢true}
use Rattle.hb_edge.specs.Images.{Image}
use Rattle.hb_edge.specs.Runs.{weaker}
use Rattle.hb_edge.specs.Stops.{Leaves}
use Rattle.hb_types.specs.declared.answer.Answer.{Answer}
use Rattle.hb_types.specs.declared.answer.Answer.TheVariants as answer
use Rattle.hb_types.specs.declared.change.LogItem.{LogItem}
use Rattle.hb_types.specs.declared.change.Stored.{Stored}
use Rattle.hb_types.specs.declared.request.Request.{Request}
use Rattle.hb_types.specs.declared.request.Request.TheVariants as request
use Rattle.hb_disks.specs.Points.{Point}
use Rattle.hb_log.specs.declared.log.Log.{Log}
use Rattle.hb_runs.specs.Server.{SState, IsInDoubt}
use Rattle.hb_runs.specs.ServerEffects.{Effect, Allowed, Steps, happens, lost, aborted, dropped}
use Rattle.hb_runs.specs.ServerCauses.{Causes}
use Rattle.hb_runs.specs.ServerAnswers.{Right}
use Rattle.hb_runs.specs.ServerRuns.{Asked, Run, Turns}
use Rattle.hb_engine.specs.declared.engine.Engine.{Engine}
use Rattle.hb_engine.specs.Turned.{StandsFor, Turned}
use Rattle.hb_store.specs.Meanings.{IsOn, Stays}
use Rattle.hb_force.specs.declared.running.Running.{Running}
use Rattle.hb_force.specs.Standing.{HasFrom, IsUp, IsBetween, Recorded, is_recorded}
use Rattle.hb_force.proofs.Causing.{doubt_dead}
use Rattle.hb_force.proofs.Logging.{log_left}
use Rattle.hb_server.specs.declared.state.Serving.{Serving}
use Rattle.hb_server.specs.Law.{IsDown, IsServing, IsLeft, asking, from_of, is_passed}
use Rattle.hb_server.proofs.Runs.{run_more, left_by, fault_before, fault_after, passed_turn}
use Rattle.hb_server.proofs.Stops.{inside_longer}

-- where the answer has its record, the state after the call has it
recorded_log : (engine : Engine) (rs : List Stored) (s t : SState) (q : Request) (a : Answer) (e : Effect) → StandsFor engine rs s → is_recorded q a ≡ true → Turns s (asking q a) t → Recorded q e → Allowed s e → (happens s e).log ≡ t.log
recorded_log engine rs s t (request.Prepare tx) a e stands is turn rec allowed = by a is turn.causes
  where
    by : (a : Answer) → is_recorded (request.Prepare tx) a ≡ true → Causes s (request.Prepare tx) a turn.effects → (happens s e).log ≡ t.log
    by (answer.Vote floor) is causes = ap (λ (x : Effect). (happens s x).log) rec ∙ ap (λ (x : SState). x.log) (subst (λ (es : List Effect). Steps s es t) causes turn.steps).1
    by _ is causes = absurd (false≢true is)
recorded_log engine rs s t (request.Commit tx n) a e stands is turn rec allowed = by a is turn.causes
  where
    by : (a : Answer) → is_recorded (request.Commit tx n) a ≡ true → Causes s (request.Commit tx n) a turn.effects → (happens s e).log ≡ t.log
    by answer.Done is causes = ap (λ (x : Effect). (happens s x).log) rec ∙ ap (λ (x : SState). x.log) (subst (λ (es : List Effect). Steps s es t) causes turn.steps).1
    by _ is causes = absurd (false≢true is)
recorded_log engine rs s t (request.Rollback tx) a e stands is turn rec allowed = by a is turn.causes
  where
    doubt : (floor : ℕ) × IsInDoubt s tx.0 floor
    doubt = subst (Allowed s) rec allowed

    done : ((turn.effects ≡ dropped tx.0 ∷ []) ⊎ (turn.effects ≡ aborted tx.0 ∷ [])) → (happens s e).log ≡ t.log
    done (inl was) = absurd (doubt_dead engine rs s tx.0 doubt.0 stands doubt.1 (subst (λ (es : List Effect). Steps s es t) was turn.steps).0)
    done (inr was) = ap (λ (x : Effect). (happens s x).log) rec ∙ ap (λ (x : SState). x.log) (subst (λ (es : List Effect). Steps s es t) was turn.steps).1

    by : (a : Answer) → is_recorded (request.Rollback tx) a ≡ true → Causes s (request.Rollback tx) a turn.effects → (happens s e).log ≡ t.log
    by answer.Done is causes = done causes
    by _ is causes = absurd (false≢true is)
recorded_log engine rs s t _ a e stands is turn rec allowed = absurd rec

module _ {D S : Type 0} (content : D → Option Image) (left : D → ℕ → Image → Type 0) (last : D → ℕ) (rows : S → List Stored) (keeps : S → Option Point → Image → Type 0) (staged : S → Image → Type 0) (point_in : Image → Option Point → Type 0)
    (holds : (store : S) (p : Option Point) (image : Image) → keeps store p image → point_in image p) (first : SState) (trail : List Asked) (serves : Serving D S) (before : ℕ) (is : IsServing content left last rows keeps staged first trail serves before)
    (q : Request) (new : Running D S) (after : ℕ) (le : before ≤ after)
    (leaves : Leaves before (left serves.running.log.disk) (left new.log.disk) (λ m image. IsBetween (from_of is.point) is.read is.state q image × (length is.is_up.log.settled.image ≤ length image)))
    (stays : Stays keeps staged serves.running.store new.store) where
  -- the store goes on over the area disk
  still_on : IsOn keeps staged (content serves.area) (left serves.area (last serves.area)) new.store is.point
  still_on = record {
    read = is.on.read;
    told = is.on.told;
    stands = stays.stands_on is.on.read is.on.stands;
    each = λ image l. stays.keeps_on is.point image (is.on.each image l);
  }

  -- it goes on
  pub works : (a : Answer) → ((m : ℕ) (image : Image) → last new.log.disk ≤ m → left new.log.disk (last new.log.disk) image → left new.log.disk m image)
      → (t : Turned is.state q a (λ t. IsUp content left last rows (from_of is.point) is.read t new after)) → left new.log.disk (last new.log.disk) t.at.log.settled.image
      → IsServing content left last rows keeps staged first (trail ++ asking q a ∷ []) (record { running = new; area = serves.area }) after
  works a stands_on t read = record {
    point = is.point;
    read = is.read;
    base = is.base;
    state = t.state;
    run = run_more first trail is.state t.state (asking q a) is.run t.turn;
    is_up = t.at;
    inside = inside_longer (from_of is.point) is.is_up.log.settled.image t.at.log.settled.image is.inside (leaves.each after t.at.log.settled.image le (stands_on after t.at.log.settled.image t.at.log.in_time read)).1;
    on = still_on;
    area_in_time = let time = is.area_in_time in omega (arith, time, le);
  }

  -- it goes on, and nothing is changed
  pub works_on : (a : Answer) → is_passed q a ≡ true → ((m : ℕ) (image : Image) → last new.log.disk ≤ m → left new.log.disk (last new.log.disk) image → left new.log.disk m image)
      → (t : Turned is.state q a (λ t. IsUp content left last rows (from_of is.point) is.read t new after)) → left new.log.disk (last new.log.disk) t.at.log.settled.image
      → IsServing content left last rows keeps staged first trail (record { running = new; area = serves.area }) after
  works_on a passed stands_on t read = record {
    point = is.point;
    read = is.read;
    base = is.base;
    state = t.state;
    run = subst (Run first trail) (passed_turn is.state t.state q a passed t.turn) is.run;
    is_up = t.at;
    inside = inside_longer (from_of is.point) is.is_up.log.settled.image t.at.log.settled.image is.inside (leaves.each after t.at.log.settled.image le (stands_on after t.at.log.settled.image t.at.log.in_time read)).1;
    on = still_on;
    area_in_time = let time = is.area_in_time in omega (arith, time, le);
  }

  old_left : (image : Image) → HasFrom (from_of is.point) image (is.read ++ is.state.log) → IsLeft first trail image
  old_left image has = left_by is.point is.read first trail is.state image is.base is.run has

  -- what a stop leaves meanwhile, where the answer has its record
  pub recorded_leaves : (a : Answer) (t : SState) → is_recorded q a ≡ true → Turns is.state (asking q a) t → Leaves before (left serves.running.log.disk) (left new.log.disk) (λ m image. IsLeft first trail image ⊎ IsLeft first (trail ++ asking q a ∷ []) image)
  recorded_leaves a t recorded turn = weaker before _ _ _ _ (λ m image late l. by image l.0) leaves
    where
      by : (image : Image) → IsBetween (from_of is.point) is.read is.state q image → IsLeft first trail image ⊎ IsLeft first (trail ++ asking q a ∷ []) image
      by image (inl was) = inl (old_left image was)
      by image (inr (e, rec, allowed, has)) =
          inr (left_by is.point is.read first (trail ++ asking q a ∷ []) t image is.base (run_more first trail is.state t (asking q a) is.run turn)
          (subst (λ (l : List LogItem). HasFrom (from_of is.point) image (is.read ++ l)) (recorded_log serves.running.engine (rows serves.running.store) is.state t q a e is.is_up.stands recorded turn rec allowed) has))

  -- and where it has none
  pub quiet_leaves : (a : Answer) → ((m : ℕ) (image : Image) → last serves.running.log.disk ≤ m → left serves.running.log.disk m image → left serves.running.log.disk (last serves.running.log.disk) image) → new.log ≡ serves.running.log
      → Leaves before (left serves.running.log.disk) (left new.log.disk) (λ m image. IsLeft first trail image ⊎ IsLeft first (trail ++ asking q a ∷ []) image)
  quiet_leaves a stands same = record {
    each = λ m image late l.
        inl (old_left image (log_left content left last (from_of is.point) (is.read ++ is.state.log) serves.running.log before m image stands is.is_up.log (let time = is.is_up.log.in_time in omega (arith, time, late)) (subst (λ (x : Log D). left x.disk m image) same l)));
    before = leaves.before;
    keeps = leaves.keeps;
  }

  -- a fault stops it
  fault_state : (image : Image) → Right is.state q (answer.Fault false) → IsBetween (from_of is.point) is.read is.state q image
      → (t : SState) × Run first (trail ++ asking q (answer.Fault false) ∷ []) t × (t.up ≡ false) × (t.live ≡ []) × HasFrom (from_of is.point) image (is.read ++ t.log)
  fault_state image right (inl was) = (
    happens is.state lost,
    run_more first trail is.state (happens is.state lost) (asking q (answer.Fault false)) is.run (fault_before is.state q is.is_up.stands.up right),
    refl,
    refl,
    was,
  )
  fault_state image right (inr (e, rec, allowed, has)) = (
    happens (happens is.state e) lost,
    run_more first trail is.state (happens (happens is.state e) lost) (asking q (answer.Fault false)) is.run (fault_after is.state q e rec allowed right),
    refl,
    refl,
    has,
  )

  pub faults : Right is.state q (answer.Fault false) → ((m : ℕ) (image : Image) → last new.log.disk ≤ m → left new.log.disk (last new.log.disk) image → left new.log.disk m image) → is_some (content new.log.disk) ≡ true → last new.log.disk ≤ after
      → IsDown content left last point_in first (trail ++ asking q (answer.Fault false) ∷ []) new.log.disk serves.area after
  faults right stands_on told in_time = record {
    point = is.point;
    read = is.read;
    base = is.base;
    log_rests = record {
      told = told;
      in_time = in_time;
      each = λ image l.
          let found = leaves.each (max (last new.log.disk) before) image (omega arith) (stands_on (max (last new.log.disk) before) image (omega arith) l) in
          let t = fault_state image right found.0 in
          record {
            state = t.0;
            run = t.1;
            stopped = t.2;
            no_live = t.3;
            has = t.4;
            inside = inside_longer (from_of is.point) is.is_up.log.settled.image image is.inside found.1;
          };
    };
    area_rests = record {
      told = ap is_some is.on.told;
      in_time = let time = is.area_in_time in omega (arith, time, le);
      each = λ image l. holds serves.running.store is.point image (is.on.each image l);
    };
  }

  pub fault_leaves : Right is.state q (answer.Fault false) → Leaves before (left serves.running.log.disk) (left new.log.disk) (λ m image. IsLeft first trail image ⊎ IsLeft first (trail ++ asking q (answer.Fault false) ∷ []) image)
  fault_leaves right = weaker before _ _ _ _ (λ m image late l. by image l.0) leaves
    where
      by : (image : Image) → IsBetween (from_of is.point) is.read is.state q image → IsLeft first trail image ⊎ IsLeft first (trail ++ asking q (answer.Fault false) ∷ []) image
      by image found = let t = fault_state image right found in inr (left_by is.point is.read first (trail ++ asking q (answer.Fault false) ∷ []) t.0 image is.base t.1 t.4)
