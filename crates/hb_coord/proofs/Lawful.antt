-- How a run that explains the coordinator goes on by a request.
use Rattle.std.proofs.Common.{◌≡◌, inl, inr, ℕ, ◌+◌, ◌≤◌, List, [], ◌∷◌, ◌++◌, max, refl, sym, ◌∙◌, ap, subst, arith, true, false}
use Rattle.std.specs.Prelude.{Bool, Option, is_some}
use Rattle.hb_edge.specs.Images.{Image}
use Rattle.hb_edge.specs.Stops.{Leaves}
use Rattle.hb_edge.specs.Runs.{weaker}
use Rattle.hb_codec.specs.Reading.{OneForm}
use Rattle.hb_codec.specs.Spellings.{IsBodyOf}
use Rattle.hb_types.specs.declared.answer.Answer.{Answer}
use Rattle.hb_types.specs.declared.answer.Answer.TheVariants as answer
use Rattle.hb_types.specs.declared.change.LogItem.{LogItem}
use Rattle.hb_types.specs.declared.request.Request.{Request}
use Rattle.hb_types.specs.declared.request.Request.TheVariants as request
use Rattle.hb_log.specs.declared.fault.LogFault.{LogFault}
use Rattle.hb_log.specs.declared.fault.LogFault.TheVariants as fault
use Rattle.hb_runs.specs.Coordinator.{CState, CEffect, CRun, CTurns, Right, RightIn, Allowed, happens, lost, came_up, stopped_at}
use Rattle.hb_runs.specs.ServerRuns.{Asked}
use Rattle.hb_coord.specs.Standing.{IsLog, IsUp, IsBetween, Records, asking, is_quiet, records_none}
use Rattle.hb_coord.specs.Starts.{Starts, WasLeft}
use Rattle.hb_coord.specs.Law.{IsDown, IsLeftIn, content_of, left_of, most_calls}
use Rattle.hb_edge.specs.declared.fused.Fused.{Fused}
use Rattle.hb_edge.specs.Fuses.{last_of}
use Rattle.hb_edge.specs.Wrapping.{stands_later, stands_on_later}
use Rattle.std.proofs.lemmas.Bool.{false≢true}
use Rattle.hb_coord.specs.declared.running.Running.{Running}
use Rattle.hb_coord.proofs.Logging.{log_left, one_list, same_items}

-- ---- one turn more

pub run_more : (k : CState) (trail : List Asked) (u t : CState) (a : Asked) → CRun k trail u → CTurns u a t → CRun k (trail ++ a ∷ []) t
run_more k [] u t a run turn = (t, subst (λ (s : CState). CTurns s a t) (sym run) turn, refl)
run_more k (b ∷ trail) u t a run turn = (run.0, run.1, run_more run.0 trail u t a run.2 turn)

-- a coordinator that is down says so
down_turn : (items : List LogItem) (q : Request) → (q ≡ request.Start → ⊥) → CTurns (stopped_at items) (asking q answer.Down) (stopped_at items)
down_turn items (request.Begin owner) never = record { effects = []; causes = refl; right = tt; steps = refl }
down_turn items (request.Decide tx votes) never = record { effects = []; causes = refl; right = tt; steps = refl }
down_turn items (request.Abort tx) never = record { effects = []; causes = refl; right = tt; steps = refl }
down_turn items request.Stop never = record { effects = []; causes = refl; right = tt; steps = refl }
down_turn items request.Start never = absurd (never refl)
down_turn items _ never = record { effects = []; causes = refl; right = tt; steps = refl }

-- a start that fails
failed_turn : (items : List LogItem) (f : LogFault) (a : Answer) → (f ≡ fault.Closed → ⊥) → (f ≡ fault.Fault → a ≡ answer.Fault false) → ((place : ℕ) → f ≡ fault.Damaged place → a ≡ answer.Damaged false place) → (f ≡ fault.NoMemory → a ≡ answer.NoMemory)
    → CTurns (stopped_at items) (asking request.Start a) (stopped_at items)
failed_turn items fault.Fault a never is damaged memory = subst (λ (b : Answer). CTurns (stopped_at items) (asking request.Start b) (stopped_at items)) (sym (is refl)) (record { effects = []; causes = refl; right = tt; steps = refl })
failed_turn items (fault.Damaged place) a never is damaged memory = subst (λ (b : Answer). CTurns (stopped_at items) (asking request.Start b) (stopped_at items)) (sym (damaged place refl)) (record { effects = []; causes = refl; right = tt; steps = refl })
failed_turn items fault.Closed a never is damaged memory = absurd (never refl)
failed_turn items fault.NoMemory a never is damaged memory = subst (λ (b : Answer). CTurns (stopped_at items) (asking request.Start b) (stopped_at items)) (sym (memory refl)) (record { effects = []; causes = inl refl; right = tt; steps = refl })

stop_turn : (k : CState) → k.up ≡ true → CTurns k (asking request.Stop answer.Done) (stopped_at k.log)
stop_turn k up = record { effects = lost ∷ []; causes = refl; right = subst (λ (b : Bool). RightIn b k request.Stop answer.Done) (sym up) tt; steps = (tt, refl) }

-- of a call that faulted it is open whether its record stands
fault_before : (k : CState) (q : Request) → k.up ≡ true → Right k q (answer.Fault false) → CTurns k (asking q (answer.Fault false)) (stopped_at k.log)
fault_before k (request.Begin owner) up right = record { effects = lost ∷ []; causes = inl refl; right = right; steps = (tt, refl) }
fault_before k (request.Decide tx votes) up right = record { effects = lost ∷ []; causes = inl refl; right = right; steps = (tt, refl) }
fault_before k (request.Abort tx) up right = absurd (subst (λ (b : Bool). RightIn b k (request.Abort tx) (answer.Fault false)) up right)
fault_before k (request.Outcome tx) up right = absurd (subst (λ (b : Bool). RightIn b k (request.Outcome tx) (answer.Fault false)) up right)
fault_before k request.Start up right = absurd (subst (λ (b : Bool). RightIn b k request.Start (answer.Fault false)) up right)
fault_before k request.Stop up right = absurd (subst (λ (b : Bool). RightIn b k request.Stop (answer.Fault false)) up right)
fault_before k q up right = absurd (subst (λ (b : Bool). RightIn b k q (answer.Fault false)) up right)

pub fault_after : (k : CState) (q : Request) (e : CEffect) → Records k q e → Allowed k e → Right k q (answer.Fault false) → CTurns k (asking q (answer.Fault false)) (stopped_at (happens k e).log)
fault_after k (request.Begin owner) e is allowed right = record { effects = e ∷ lost ∷ []; causes = inr (ap (λ (x : CEffect). x ∷ lost ∷ []) is.1); right = right; steps = (allowed, (tt, refl)) }
fault_after k (request.Decide tx votes) e is allowed right = record { effects = e ∷ lost ∷ []; causes = inr (ap (λ (x : CEffect). x ∷ lost ∷ []) is); right = right; steps = (allowed, (tt, refl)) }
fault_after k _ e is allowed right = absurd is

start_turn : (items : List LogItem) → CTurns (stopped_at items) (asking request.Start (answer.Started [])) (happens (stopped_at items) came_up)
start_turn items = record { effects = came_up ∷ []; causes = refl; right = refl; steps = (refl, refl) }

module _ {D : Type 0} (content : D → Option Image) (left : D → ℕ → Image → Type 0) (last : D → ℕ) (first : CState) (trail : List Asked) where
  -- ---- down

  pub still_down : (disk : D) (moment : ℕ) (q : Request) → (q ≡ request.Start → ⊥) → IsDown content left last first trail disk moment → IsDown content left last first (trail ++ asking q answer.Down ∷ []) disk moment
  still_down disk moment q never down = record {
    told = down.told;
    in_time = down.in_time;
    each = λ image is. let found = down.each image is in (found.0, found.1, run_more first trail (stopped_at found.0) (stopped_at found.0) (asking q answer.Down) found.2 (down_turn found.0 q never));
  }

  pub down_leaves : (disk : D) (moment : ℕ) (q : Request) → ((m : ℕ) (image : Image) → last disk ≤ m → left disk m image → left disk (last disk) image) → IsDown content left last first trail disk moment
      → Leaves moment (left disk) (left disk) (λ m image. IsLeftIn first trail q image)
  down_leaves disk moment q stands down = record {
    each = λ m image le is. let found = down.each image (stands m image (omega (arith, le, down.in_time)) is) in (stopped_at found.0, found.2, inl found.1);
    before = λ m image lt is. is;
    keeps = λ m image lt is. is;
  }

  -- ---- a start

  -- an image that is left in a start has the records of one that was left before
  pub read_again : OneForm IsBodyOf → (disk : D) (moment : ℕ) (image : Image) → IsDown content left last first trail disk moment → WasLeft left last disk image → (items : List LogItem) × IsLog image items × CRun first trail (stopped_at items)
  read_again one disk moment image down (old, was, same) =
      let found = down.each old was in (found.0, record { has_items = same_items one old image found.0 same found.1.has_items; own = found.1.own }, found.2)

  pub start_leaves : OneForm IsBodyOf → (disk new : D) (moment : ℕ) → IsDown content left last first trail disk moment → Leaves moment (left disk) (left new) (λ m image. WasLeft left last disk image) → Leaves moment (left disk) (left new) (λ m image. IsLeftIn first trail request.Start image)
  start_leaves one disk new moment down leaves = weaker moment _ _ _ _ (λ m image le was. let found = read_again one disk moment image down was in (stopped_at found.0, found.2, inl found.1)) leaves

  pub comes_up : OneForm IsBodyOf → (disk : D) (r : Running D) (before moment : ℕ) → IsDown content left last first trail disk before → Starts content left last disk r moment
      → (k : CState) × CRun first (trail ++ asking request.Start (answer.Started []) ∷ []) k × IsUp content left last k r moment
  comes_up one disk r before moment down starts =
      let found = down.each starts.image starts.was_left in
      let same : found.0 ≡ starts.items = one_list one starts.image found.0 starts.items found.1.has_items starts.is_log.has_items in (
        happens (stopped_at starts.items) came_up,
        run_more first trail (stopped_at starts.items) (happens (stopped_at starts.items) came_up) (asking request.Start (answer.Started [])) (subst (λ (l : List LogItem). CRun first trail (stopped_at l)) same found.2) (start_turn starts.items),
        starts.up,
      )

  pub stays_down : OneForm IsBodyOf → (disk new : D) (before moment : ℕ) (f : LogFault) (a : Answer) → ((m : ℕ) (image : Image) → last new ≤ m → left new (last new) image → left new m image) → IsDown content left last first trail disk before
      → Leaves before (left disk) (left new) (λ m image. WasLeft left last disk image) → is_some (content new) ≡ is_some (content disk) → last new ≤ moment → before ≤ moment
      → (f ≡ fault.Closed → ⊥) → (f ≡ fault.Fault → a ≡ answer.Fault false) → ((place : ℕ) → f ≡ fault.Damaged place → a ≡ answer.Damaged false place) → (f ≡ fault.NoMemory → a ≡ answer.NoMemory)
      → IsDown content left last first (trail ++ asking request.Start a ∷ []) new moment
  stays_down one disk new before moment f a stands_on down leaves told in_time le closed is damaged memory = record {
    told = told ∙ down.told;
    in_time = in_time;
    each = λ image now.
        let found = read_again one disk before image down (leaves.each (max (last new) before) image (omega arith) (stands_on (max (last new) before) image (omega arith) now)) in
        (found.0, found.1, run_more first trail (stopped_at found.0) (stopped_at found.0) (asking request.Start a) found.2 (failed_turn found.0 f a closed is damaged memory));
  }

  -- ---- up

  pub stops : (k : CState) (r : Running D) (moment : ℕ) → ((m : ℕ) (image : Image) → last r.log.disk ≤ m → left r.log.disk m image → left r.log.disk (last r.log.disk) image) → CRun first trail k → IsUp content left last k r moment
      → IsDown content left last first (trail ++ asking request.Stop answer.Done ∷ []) r.log.disk moment
  stops k r moment stands run up = record {
    told = ap is_some up.log.settled.told;
    in_time = up.log.in_time;
    each = λ image is. (
      k.log,
      record { has_items = log_left content left last k.log r.log moment (last r.log.disk) image stands up.log (omega arith) is; own = up.own },
      run_more first trail k (stopped_at k.log) (asking request.Stop answer.Done) run (stop_turn k up.up),
    );
  }

  pub up_leaves : (k : CState) (q : Request) (old new : D) (before : ℕ) → CRun first trail k → Leaves before (left old) (left new) (λ m image. IsBetween k q image) → Leaves before (left old) (left new) (λ m image. IsLeftIn first trail q image)
  up_leaves k q old new before run leaves = weaker before _ _ _ _ (λ m image le is. (k, run, is)) leaves

  pub faults : (k : CState) (q : Request) (old new : D) (before moment : ℕ) → ((m : ℕ) (image : Image) → last new ≤ m → left new (last new) image → left new m image) → CRun first trail k → k.up ≡ true → Right k q (answer.Fault false)
      → Leaves before (left old) (left new) (λ m image. IsBetween k q image) → is_some (content new) ≡ true → last new ≤ moment
      → IsDown content left last first (trail ++ asking q (answer.Fault false) ∷ []) new moment
  faults k q old new before moment stands_on run up right leaves told in_time = record {
    told = told;
    in_time = in_time;
    each = λ image now. by image (leaves.each (max (last new) before) image (omega arith) (stands_on (max (last new) before) image (omega arith) now));
  }
    where
      by : (image : Image) → IsBetween k q image → (items : List LogItem) × IsLog image items × CRun first (trail ++ asking q (answer.Fault false) ∷ []) (stopped_at items)
      by image (inl was) = (k.log, was, run_more first trail k (stopped_at k.log) (asking q (answer.Fault false)) run (fault_before k q up right))
      by image (inr (e, is, allowed, log)) = ((happens k e).log, log, run_more first trail k (stopped_at (happens k e).log) (asking q (answer.Fault false)) run (fault_after k q e is allowed right))

-- ---- disks with a fuse

-- a repaired disk is as it was
pub repaired : {D : Type 0} (content : D → Option Image) (left : D → ℕ → Image → Type 0) (last : D → ℕ) (first : CState) (trail : List Asked) (old new : Fused D) (moment : ℕ) → new.inner ≡ old.inner → new.failed_at ≡ old.failed_at
    → IsDown (content_of content) (left_of left) (last_of last) first trail old moment → IsDown (content_of content) (left_of left) (last_of last) first trail new moment
repaired {D} content left last first trail old new moment inner failed_at down = record {
  told = subst (λ (d : D). is_some (content d) ≡ true) (sym inner) down.told;
  in_time = subst (λ (n : ℕ). max (last new.inner) n ≤ moment) (sym failed_at) (subst (λ (d : D). max (last d) old.failed_at ≤ moment) (sym inner) down.in_time);
  each = λ image is.
      down.each image
      (subst (λ (d : D). left d (max (last d) old.failed_at) image) inner
      (subst (λ (n : ℕ). left new.inner (max (last new.inner) n) image) failed_at is));
}

pub calls_fit : (q : Request) (a b : ℕ) → b ≤ a + 4 → (records_none q ≡ true → b ≡ a) → b ≤ a + most_calls q
calls_fit (request.Begin owner) a b le none = le
calls_fit (request.Decide tx votes) a b le none = le
calls_fit request.Start a b le none = omega (arith, le)
calls_fit q a b le none = let e : b ≡ a = none refl in omega (arith, e)

pub loud : (a : Answer) (area : Bool) → is_quiet a ≡ true → a ≡ answer.Fault area → ⊥
loud a area quiet is = false≢true (sym (ap is_quiet is) ∙ quiet)

pub damage : (a : Answer) (area : Bool) (place : ℕ) → is_quiet a ≡ true → a ≡ answer.Damaged area place → ⊥
damage a area place quiet is = false≢true (sym (ap is_quiet is) ∙ quiet)

pub fused_stands : {D : Type 0} (left : D → ℕ → Image → Type 0) (last : D → ℕ) (f : Fused D) → ((m : ℕ) (image : Image) → last f.inner ≤ m → left f.inner m image → left f.inner (last f.inner) image) → ((m : ℕ) (image : Image) → last f.inner ≤ m → left f.inner (last f.inner) image → left f.inner m image)
    → (m : ℕ) (image : Image) → last_of last f ≤ m → left_of left f m image → left_of left f (last_of last f) image
fused_stands left last f stands stands_on = stands_later (left f.inner) (last f.inner) f.failed_at stands stands_on

pub fused_stands_on : {D : Type 0} (left : D → ℕ → Image → Type 0) (last : D → ℕ) (f : Fused D) → ((m : ℕ) (image : Image) → last f.inner ≤ m → left f.inner m image → left f.inner (last f.inner) image) → ((m : ℕ) (image : Image) → last f.inner ≤ m → left f.inner (last f.inner) image → left f.inner m image)
    → (m : ℕ) (image : Image) → last_of last f ≤ m → left_of left f (last_of last f) image → left_of left f m image
fused_stands_on left last f stands stands_on = stands_on_later (left f.inner) (last f.inner) f.failed_at stands stands_on
