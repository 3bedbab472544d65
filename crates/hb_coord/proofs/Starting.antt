-- A start: what a stop leaves in it, what it comes up with, and why it doesn't.
use Rattle.std.proofs.Common.{◌≡◌, inl, inr, ⊎_elim, ℕ, ◌+◌, ◌<◌, ◌≤◌, List, [], ◌∷◌, ◌++◌, length, max, refl, sym, ◌∙◌, subst, arith, true}
use Rattle.std.specs.Prelude.{Option, Some, None, IfSome, is_some, fold}
use Rattle.std.proofs.lemmas.Bool.{cases_lt, false≢true}
use Rattle.hb_edge.specs.Images.{Image, Same}
use Rattle.hb_edge.specs.Moments.{tick}
use Rattle.hb_edge.specs.Stops.{Leaves, Passes}
use Rattle.hb_codec.specs.Reading.{OneForm}
use Rattle.hb_codec.specs.Spellings.{IsBodyOf}
use Rattle.hb_types.specs.declared.change.LogItem.{LogItem}
use Rattle.hb_types.specs.declared.change.LogItem.TheVariants.{Prepare, Commit, Abort, Decision, Ids}
use Rattle.hb_types.specs.declared.change.Placed.{Placed}
use Rattle.hb_types.specs.Lists.{Each}
use Rattle.hb_types.specs.Logs.{Records, RecordsFrom, readable}
use Rattle.hb_types.specs.Numbers.{greatest}
use Rattle.hb_types.specs.Records.{HasRecord, record_length}
use Rattle.hb_log.specs.Log.{IsSettled, IsSameOrShort}
use Rattle.hb_disks.specs.Says.{uptos}
use Rattle.hb_disks.specs.StandsFor.{IsCoordinators, greatest_upto}
use Rattle.hb_runs.specs.Coordinator.{happens, came_up, stopped_at}
use Rattle.hb_coord.specs.Memory.{Reflects}
use Rattle.hb_coord.specs.Standing.{items_of}
use Rattle.hb_coord.specs.Starts.{Starts, WasLeft, IsBadAt, IsStrange}
use Rattle.hb_coord.specs.declared.running.Running.{Running}
use Rattle.hb_coord.proofs.Logging.{one_list, short_records}

pub told_some : {A : Type 0} (o : Option A) → is_some o ≡ true → (x : A) × (o ≡ Some x)
told_some None is = absurd (false≢true is)
told_some (Some x) is = (x, refl)

pub at_some : {A : Type 0} (o : Option A) (x : A) (P : A → Type 0) → o ≡ Some x → IfSome o P → P x
at_some o x P is has = subst (λ p. IfSome p P) is has

-- ---- reserved numbers are in their limits

upto_of : (item : LogItem) (more : List LogItem) (n : ℕ) → HasRecord item → n ≤ greatest → ((m : ℕ) → m ≤ greatest → fold max m (uptos more) ≤ greatest) → fold max n (uptos (item ∷ more)) ≤ greatest
upto_of (Prepare tx floor locks changes) more n has le rest = rest n le
upto_of (Commit tx number) more n has le rest = rest n le
upto_of (Abort tx) more n has le rest = rest n le
upto_of (Decision tx number nodes) more n has le rest = rest n le
upto_of (Ids upto) more n has le rest = let most : upto ≤ greatest = has.0.1 in rest (max n upto) (omega (arith, le, most))

within : (image : Image) (from : ℕ) (placed : List Placed) (n : ℕ) → RecordsFrom image from placed → n ≤ greatest → fold max n (uptos (items_of placed)) ≤ greatest
within image from [] n records le = le
within image from (p ∷ ps) n records le = upto_of p.item (items_of ps) n records.1.has_record le (λ m most. within image (from + record_length p.item) ps m records.2 most)

pub uptos_within : (image : Image) (placed : List Placed) → Records image 0 placed → greatest_upto (items_of placed) ≤ greatest
uptos_within image placed records = within (readable image) 0 placed 0 records (omega arith)

-- ---- what a stop leaves

module _ {D : Type 0} (content : D → Option Image) (left : D → ℕ → Image → Type 0) (last : D → ℕ) (old mid : D) (before then : ℕ) (stands : (m : ℕ) (image : Image) → last old ≤ m → left old m image → left old (last old) image)
    (ticks : then ≡ tick before) (passes : Passes Same then (last old) (left old) (left mid)) (in_time : last old ≤ before) where
  early : (m : ℕ) (image : Image) → before ≤ m → m < then → left mid m image → WasLeft left last old image
  early m image le lt is = (image, stands m image (omega (arith, in_time, le)) (passes.before m image lt is), inl refl)

  -- the restart failed
  pub left_as_was : Leaves before (left old) (left mid) (λ m image. WasLeft left last old image)
  left_as_was = record {
    each = λ m image le is. ⊎_elim (λ lt. early m image le lt is) (λ late. after m image late is) (cases_lt m then);
    before = λ m image lt is. passes.before m image (omega (arith, lt, ticks)) is;
    keeps = λ m image lt is. passes.keeps m image (omega (arith, lt, ticks)) is;
  }
    where
      after : (m : ℕ) (image : Image) → then ≤ m → left mid m image → WasLeft left last old image
      after m image late is = let s = passes.since m image (omega (arith, late, in_time, ticks)) is in (s.0, s.1, inl s.2)

  -- the log was read, or not
  pub left_as_read : (new : D) (read : Image) → left old (last old) read → Leaves then (left mid) (left new) (λ m image. IsSameOrShort read image) → Leaves before (left old) (left new) (λ m image. WasLeft left last old image)
  left_as_read new read was leaves = record {
    each = λ m image le is. ⊎_elim (λ lt. early m image le lt (leaves.before m image lt is)) (λ late. (read, was, leaves.each m image late is)) (cases_lt m then);
    before = λ m image lt is. passes.before m image (omega (arith, lt, ticks)) (leaves.before m image (omega (arith, lt, ticks)) is);
    keeps = λ m image lt is. leaves.keeps m image (omega (arith, lt, ticks)) (passes.keeps m image (omega (arith, lt, ticks)) is);
  }

-- ---- what it comes up with

pub starts_with : {D : Type 0} (content : D → Option Image) (left : D → ℕ → Image → Type 0) (last : D → ℕ) (old : D) (r : Running D) (read : Image) (placed : List Placed) (moment : ℕ) → left old (last old) read → Records read 0 placed
    → IsSettled content left last 0 placed r.log → last r.log.disk ≤ moment → Each IsCoordinators (items_of placed) → (greatest_upto (items_of placed) ≤ greatest → Reflects (happens (stopped_at (items_of placed)) came_up) r.ledger)
    → Starts content left last old r moment
starts_with content left last old r read placed moment was records settled in_time own reflects = record {
  image = read;
  was_left = was;
  items = items_of placed;
  is_log = record { has_items = (placed, records, refl); own = own };
  up = record {
    up = refl;
    own = own;
    is_reserved = omega arith;
    log = record { placed = placed; settled = settled; items_are = refl; in_time = in_time };
    reflects = reflects (uptos_within read placed records);
  };
}

-- ---- what is bad

no_parts : {A : Type 0} (front : List A) (x : A) (back : List A) → [] ≡ front ++ x ∷ back → ⊥
no_parts [] x back e = cc
no_parts (y ∷ front) x back e = cc

pub strange_is_bad : OneForm IsBodyOf → (content : Option Image) (read : Image) (placed : List Placed) (place : ℕ) → Records read 0 placed → (7 ≤ length read → content ≡ Some read) → IsStrange placed place → IfSome content (λ image. IsBadAt image place)
strange_is_bad one content read placed place records long strange =
    ⊎_elim (λ short. absurd (none short)) (λ enough. subst (λ o. IfSome o (λ image. IsBadAt image place)) (sym (long enough)) (inr (placed, records, strange))) (cases_lt (length read) 7)
  where
    empty : (l : List Placed) → items_of l ≡ [] → l ≡ []
    empty [] e = refl
    empty (p ∷ ps) e = absurd (cc)

    none : length read < 7 → ⊥
    none short =
        let same : items_of placed ≡ [] = one_list one read (items_of placed) [] (placed, records, refl) ([], short_records read short, refl) in
        no_parts strange.front strange.first strange.back (sym (empty placed same) ∙ strange.parts)
