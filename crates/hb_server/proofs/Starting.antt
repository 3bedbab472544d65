-- A start: what a stop leaves in it, and what the server comes up with.
use Rattle.std.proofs.Common.{◌≡◌, inl, inr, ℕ, ◌+◌, ◌*◌, ◌<◌, ◌≤◌, List, [], ◌∷◌, ◌++◌, map, length, refl, sym, ◌∙◌, ap, subst, arith, true}
use Rattle.std.specs.Prelude.{Option, Some, is_some, nat_lt, All, ◌⊎◌, unwrap_or}
use Rattle.std.proofs.lemmas.Bool.Decides.{nat_tests}
use Rattle.std.proofs.lemmas.List.{length-map}
use Rattle.std.proofs.lemmas.List.Elements.{recursion_from_All}
use Rattle.hb_codec.specs.Reading.{OneForm}
use Rattle.hb_codec.specs.Spellings.{IsBodyOf}
use Rattle.hb_edge.specs.Images.{Image}
use Rattle.hb_edge.specs.Runs.{weaker}
use Rattle.hb_edge.specs.Stops.{Leaves}
use Rattle.hb_types.specs.declared.answer.Answer.{Answer}
use Rattle.hb_types.specs.declared.answer.Answer.TheVariants as answer
use Rattle.hb_types.specs.declared.change.LogItem.{LogItem}
use Rattle.hb_types.specs.declared.change.LogItem.TheVariants.{Prepare, Commit, Abort, Decision, Ids}
use Rattle.hb_types.specs.declared.change.Placed.{Placed}
use Rattle.hb_types.specs.declared.change.Stored.{Stored}
use Rattle.hb_types.specs.declared.names.Tx.{Tx}
use Rattle.hb_types.specs.declared.places.Place.{Place}
use Rattle.hb_types.specs.declared.request.Request.TheVariants as request
use Rattle.hb_types.specs.Lists.{Each}
use Rattle.hb_types.specs.Logs.{Records, RecordsFrom, readable}
use Rattle.hb_types.specs.Numbers.{IsNumber, greatest}
use Rattle.hb_types.specs.Records.{HasRecord, IsChange}
use Rattle.hb_types.proofs.Ascending.{Each-append, Each-of}
use Rattle.hb_log.specs.Log.{IsSettled, IsSameOrShort}
use Rattle.hb_log.proofs.Readings.{one_reading}
use Rattle.hb_disks.specs.Points.{Point, at_point, no_point}
use Rattle.hb_disks.specs.Redo.{Prepared, Redone, after, changes_of, redo_from}
use Rattle.hb_runs.specs.Server.{SState, as_branch, now, unended}
use Rattle.hb_runs.specs.ServerEffects.{came_up, happens}
use Rattle.hb_runs.specs.ServerRuns.{Asked}
use Rattle.hb_engine.specs.Restores.{IsUpWith}
use Rattle.hb_engine.specs.Turned.{StandsFor}
use Rattle.hb_store.specs.declared.point.Point.{Point as Mark}
use Rattle.hb_store.specs.Meanings.{IsStored, Stays, mark_of, room_for}
use Rattle.hb_redo.specs.Restarts.{redone}
use Rattle.hb_force.specs.declared.running.Running.{Running}
use Rattle.hb_force.specs.Kept.{IsSoundDoubt, Kept}
use Rattle.hb_force.specs.Standing.{items_of}
use Rattle.hb_force.proofs.Rooming.{each-changes}
use Rattle.hb_force.proofs.Rows.{HasRow, rows_put_all}
use Rattle.hb_force.proofs.Sounding.{all_of, each-without_tx}
use Rattle.hb_server.specs.declared.state.Resting.{Resting}
use Rattle.hb_server.specs.Law.{IsStoppedLog, IsDown, IsLoaded, IsServing, IsLeft, IsInside, asking, from_of, is_refusal}
use Rattle.hb_server.proofs.Rest.{rests_then}
use Rattle.hb_server.proofs.Runs.{run_more, run_place, now_is, failed_turn, start_turn}
use Rattle.hb_server.proofs.Stops.{down_more, stopped_left}

-- ---- images of few bytes

readable_short : (image : List ℕ) → length image < 7 → readable image ≡ []
readable_short image short = let test : nat_lt (length image) 7 ≡ true = grind (arith, nat_tests) in rw test

pub same_or_short : (p : Option Point) (read : List LogItem) (first : SState) (trail : List Asked) (old image : Image) → IsStoppedLog p read first trail old → IsSameOrShort old image → IsStoppedLog p read first trail image
same_or_short p read first trail old image log (inl same) = subst (IsStoppedLog p read first trail) (sym same) log
same_or_short p read first trail old image log (inr (short, shorter)) = record {
  state = log.state;
  run = log.run;
  stopped = log.stopped;
  no_live = log.no_live;
  has = (log.has.0, subst (λ (l : List ℕ). RecordsFrom l (from_of p) log.has.0) (readable_short old short ∙ sym (readable_short image shorter)) log.has.1, log.has.2);
  inside = at_zero log.inside;
}
  where
    at_zero : IsInside (from_of p) old → IsInside (from_of p) image
    at_zero (inl zero) = inl zero
    at_zero (inr (within, long)) = absurd (omega (arith, long, short))

pub inside_told : (from : ℕ) (read image : Image) (content : Option Image) → IsInside from read → (7 ≤ length read → content ≡ Some read) → content ≡ Some image → IsInside from image
inside_told from read image content (inl zero) long told = inl zero
inside_told from read image content (inr (within, long)) reads told =
    let same : Some read ≡ Some image = sym (reads long) ∙ told in
    let one : read ≡ image = cc in
    inr (subst (λ (i : Image). from < length i) one within, subst (λ (i : Image). 7 ≤ length i) one long)

-- ---- what redo gives

pub redone_is : (p : Option Point) (read : List LogItem) (mark : Mark) (rows : List Stored) (records : List Placed) (log : List LogItem) → mark ≡ mark_of (unwrap_or p no_point) → rows ≡ (unwrap_or p no_point).rows → items_of records ≡ read ++ log
    → redone rows mark.floor records ≡ redo_from (at_point (unwrap_or p no_point)) (read ++ log)
redone_is p read mark rows records log marked rowed are =
    ap (λ (m : Mark). redone rows m.floor records) marked
    ∙ ap (λ (l : List Stored). redone l (record { 0 = (unwrap_or p no_point).floor }) records) rowed
    ∙ ap (λ (is : List LogItem). redo_from (at_point (unwrap_or p no_point)) is) are

-- numbers and changes of a log with records are in their limits
IsSafe : Redone → Type 0
IsSafe r = Each IsSoundDoubt r.doubts × (r.floor ≤ greatest) × Each HasRow r.rows

after_safe : (r : Redone) (i : LogItem) → IsSafe r → HasRecord i → IsSafe (after r i)
unfolding IsSafe
after_safe r (Prepare tx floor locks changes) safe has =
    (Each-append IsSoundDoubt r.doubts (record { tx = tx.0; floor = floor.0; locks = locks; changes = changes } ∷ []) safe.0 ((has.0.0, has.0.1, recursion_from_All IsChange changes has.0.5), tt), safe.1, safe.2)
after_safe r (Commit tx number) safe has = (
  each-without_tx IsSoundDoubt tx.0 r.doubts safe.0,
  let low : r.floor ≤ greatest = safe.1 in let high : number.0 ≤ greatest = has.0.1.1 in omega (arith, low, high),
  rows_put_all r.rows (changes_of tx.0 r.doubts) safe.2 (each-changes tx.0 r.doubts safe.0),
)
after_safe r (Abort tx) safe has = (each-without_tx IsSoundDoubt tx.0 r.doubts safe.0, safe.1, safe.2)
after_safe r (Decision tx number nodes) safe has = safe
after_safe r (Ids upto) safe has = safe

redo_safe : (r : Redone) (records : List Placed) → IsSafe r → Each (λ (p : Placed). HasRecord p.item) records → IsSafe (redo_from r (items_of records))
redo_safe r [] safe each = safe
redo_safe r (p ∷ ps) safe each = redo_safe (after r p.item) ps (after_safe r p.item safe each.0) each.1

redone_safe : (rows : List Stored) (mark : Mark) (records : List Placed) → mark.floor.0 ≤ greatest → All IsStored rows → All (λ (p : Placed). HasRecord p.item) records → IsSafe (redone rows mark.floor records)
unfolding IsSafe
redone_safe rows mark records low stored recorded =
    redo_safe (record { rows = rows; floor = mark.floor.0; doubts = [] }) records (tt, low, Each-of IsStored HasRow rows (λ r is. is.1) (recursion_from_All IsStored rows stored)) (recursion_from_All (λ (p : Placed). HasRecord p.item) records recorded)

-- the transactions that a start tells of
numbers_of : (found : List Tx) (ps : List Prepared) → map (λ (t : Tx). t.0) found ≡ map (λ (p : Prepared). p.tx) ps → Each IsSoundDoubt ps → Each (λ (t : Tx). IsNumber t.0) found
numbers_of [] ps e each = tt
numbers_of (t ∷ ts) [] e each = absurd (never e)
  where
    never : t.0 ∷ map (λ (t : Tx). t.0) ts ≡ [] → ⊥
    never e = cc
numbers_of (t ∷ ts) (p ∷ ps) e each =
    let first : t.0 ≡ p.tx = cc in
    let rest : map (λ (t : Tx). t.0) ts ≡ map (λ (p : Prepared). p.tx) ps = cc in
    (subst IsNumber (sym first) each.0.0, numbers_of ts ps rest each.1)

pub started_well : (rows : List Stored) (mark : Mark) (records : List Placed) (found : List Tx) → mark.floor.0 ≤ greatest → All IsStored rows → All (λ (p : Placed). HasRecord p.item) records
    → map (λ (t : Tx). t.0) found ≡ map (λ p. p.tx) (redone rows mark.floor records).doubts → All (λ (t : Tx). IsNumber t.0) found
unfolding IsSafe
started_well rows mark records found low stored recorded are =
    all_of (λ (t : Tx). IsNumber t.0) found (numbers_of found (redone rows mark.floor records).doubts are (redone_safe rows mark records low stored recorded).0)

-- as many are told as are in doubt
pub told_many : (rows : List Stored) (mark : Mark) (records : List Placed) (found : List Tx) → map (λ (t : Tx). t.0) found ≡ map (λ p. p.tx) (redone rows mark.floor records).doubts → length found ≡ length (redone rows mark.floor records).doubts
told_many rows mark records found are =
    sym (length-map found (λ (t : Tx). t.0)) ∙ ap length are ∙ length-map (redone rows mark.floor records).doubts (λ (p : Prepared). p.tx)

abbrev come : Redone → ℕ → SState
come r place = record { base = r; place = place; log = []; live = []; up = true }

-- what is kept of a server that comes up, whatever its disks tell
pub keeps_up : {D S : Type 0} (rows : S → List Stored) (room : S → Place → ℕ) (old : S) (mark : Mark) (records : List Placed) (end : ℕ) (r : Running D S) → r.log.end ≡ end → mark.floor.0 ≤ greatest → All IsStored (rows old) → All (λ (p : Placed). HasRecord p.item) records
    → ((s : SState) → IsUpWith (redone (rows old) mark.floor records) s → StandsFor r.engine (rows r.store) s) → end + 32 * length (redone (rows old) mark.floor records).doubts ≤ greatest
    → ((place : Place) → room r.store place ≡ room old place + room_for place (redone (rows old) mark.floor records).doubts)
    → (k : Kept rows room r) × (length (unended k.state) ≡ length (redone (rows old) mark.floor records).doubts)
unfolding IsSafe
keeps_up {D} {S} rows room old mark records end r end_is low stored recorded stands fits rooms =
    let safe = redone_safe (rows old) mark records low stored recorded in (
      record {
        state = come (redone (rows old) mark.floor records) r.log.end;
        stands = stands (come (redone (rows old) mark.floor records) r.log.end) (record { up = refl; no_live = refl; now_is = refl });
        sound = record { live = tt; doubts = safe.0; floor = safe.1; rows = safe.2 };
        end_is = refl;
        has_room = omega (arith, fits, end_is);
        rooms = λ place. let more = rooms place in omega (arith, more);
      },
      length-map (redone (rows old) mark.floor records).doubts as_branch,
    )

-- ---- with disks that tell their content

module _ {D S : Type 0} (content : D → Option Image) (left : D → ℕ → Image → Type 0) (last : D → ℕ) (rows : S → List Stored) (keeps : S → Option Point → Image → Type 0) (staged : S → Image → Type 0) (point_in : Image → Option Point → Type 0)
    (holds : (store : S) (p : Option Point) (image : Image) → keeps store p image → point_in image p) (first : SState) (trail : List Asked) (rest : Resting D S) (mark : Mark) (before : ℕ) (is : IsLoaded content left last rows keeps staged first trail rest mark before)
    (read : Image) (told : content rest.log ≡ Some read) (as_read : IsStoppedLog is.point is.read first trail read) where
  -- what a stop leaves while the log is opened
  opens : (new : D) → Leaves before (left rest.log) (left new) (λ m image. IsSameOrShort read image) → Leaves before (left rest.log) (left new) (λ m image. IsStoppedLog is.point is.read first trail image)
  opens new leaves = weaker before _ _ _ _ (λ m image le same. same_or_short is.point is.read first trail read image as_read same) leaves

  pub opening_leaves : (new : D) (a : Answer) → Leaves before (left rest.log) (left new) (λ m image. IsSameOrShort read image) → Leaves before (left rest.log) (left new) (λ m image. IsLeft first trail image ⊎ IsLeft first (trail ++ asking request.Start a ∷ []) image)
  opening_leaves new a leaves = weaker before _ _ _ _ (λ m image le log. inl (stopped_left is.point is.read first trail image is.base log)) (opens new leaves)

  -- the start fails
  pub fails : (new : D) (a : Answer) (after : ℕ) → before ≤ after → is_refusal a ≡ true → Leaves before (left rest.log) (left new) (λ m image. IsSameOrShort read image) → ((m : ℕ) (image : Image) → last new ≤ m → left new (last new) image → left new m image)
      → is_some (content new) ≡ is_some (content rest.log) → last new ≤ after → IsDown content left last point_in first (trail ++ asking request.Start a ∷ []) new rest.area after
  fails new a after le refusal leaves stands_on still in_time =
      down_more content left last point_in first trail request.Start a new rest.area after (λ t down. failed_turn t a down refusal) (record {
        point = is.point;
        read = is.read;
        base = is.base;
        log_rests = rests_then content left last (IsStoppedLog is.point is.read first trail) rest.log before is.log_rests new after stands_on (opens new leaves) still in_time;
        area_rests = record {
          told = ap is_some is.on.told;
          in_time = let time = is.area_in_time in omega (arith, time, le);
          each = λ image l. holds rest.store is.point image (is.on.each image l);
        };
      })

  pub from_is : from_of is.point ≡ mark.from
  from_is = sym (ap (λ (m : Mark). m.from) is.mark_is)

  -- where the log is opened at the point
  pub opens_inside : (mark.from ≡ 0) ⊎ ((mark.from < length read) × (7 ≤ length read))
  opens_inside = subst (λ (n : ℕ). IsInside n read) from_is as_read.inside

  -- it comes up
  pub comes_up : OneForm IsBodyOf → (records : List Placed) (found : List Tx) (r : Running D S) (after : ℕ) → before ≤ after → Records read mark.from records → IsSettled content left last mark.from records r.log → last r.log.disk ≤ after
      → (7 ≤ length read → content r.log.disk ≡ Some read) → ((s : SState) → IsUpWith (redone (rows rest.store) mark.floor records) s → StandsFor r.engine (rows r.store) s)
      → map (λ (t : Tx). t.0) found ≡ map (λ p. p.tx) (redone (rows rest.store) mark.floor records).doubts → Stays keeps staged rest.store r.store
      → IsServing content left last rows keeps staged first (trail ++ asking request.Start (answer.Started found) ∷ []) (record { running = r; area = rest.area }) after
  comes_up one records found r after le here settled in_time long stands doubts stays = record {
    point = is.point;
    read = is.read;
    base = is.base;
    state = happens as_read.state came_up;
    run = run_more first trail as_read.state (happens as_read.state came_up) (asking request.Start (answer.Started found)) as_read.run (start_turn as_read.state found as_read.stopped (doubts ∙ ap (λ (x : Redone). map (λ (p : Prepared). p.tx) x.doubts) gives));
    is_up = record {
      stands = stands (happens as_read.state came_up) (record { up = refl; no_live = as_read.no_live; now_is = sym gives });
      log = record {
        placed = records;
        settled = subst (λ (n : ℕ). IsSettled content left last n records r.log) (sym from_is) settled;
        items_are = are;
        in_time = in_time;
      };
      place_is = is.base.ends ∙ sym (run_place trail first as_read.state as_read.run);
    };
    inside = inside_told (from_of is.point) read _ (content r.log.disk) as_read.inside long (subst (λ (n : ℕ). IsSettled content left last n records r.log) (sym from_is) settled).told;
    on = record {
      read = is.on.read;
      told = is.on.told;
      stands = stays.stands_on is.on.read is.on.stands;
      each = λ image l. stays.keeps_on is.point image (is.on.each image l);
    };
    area_in_time = let time = is.area_in_time in omega (arith, time, le);
  }
    where
      are : items_of records ≡ is.read ++ as_read.state.log
      are = sym (ap items_of (one_reading one (readable read) (from_of is.point) as_read.has.0 records as_read.has.1 (subst (λ (n : ℕ). RecordsFrom (readable read) n records) (sym from_is) here))) ∙ as_read.has.2

      gives : redone (rows rest.store) mark.floor records ≡ now as_read.state
      gives = redone_is is.point is.read mark (rows rest.store) records as_read.state.log is.mark_is is.rows_are are ∙ sym (now_is is.point is.read first trail as_read.state is.base as_read.run)
