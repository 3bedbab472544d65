-- The steps of a point, by what the store knows.
use Rattle.std.proofs.Common.{◌≡◌, ℕ, ◌+◌, ◌<◌, ◌≤◌, Bool, true, false, not, List, length, drop, replicate, ◌++◌, refl, sym, ◌∙◌, ap, subst, arith, Some, None, Option}
use Rattle.std.specs.Prelude.{◌^◌, ◌||◌, nat_le, nat_lt, is_some, unwrap_or, IfSome}
use Rattle.std.proofs.lemmas.Bool.{le-leb, le-ltb, lt-leb, lt-ltb, true≢false}
use Rattle.std.proofs.lemmas.List.Elements.{All-from_recursion}
use Rattle.hb_edge.specs.Images.{Image}
use Rattle.hb_types.specs.declared.change.Stored.{Stored}
use Rattle.hb_types.specs.Numbers.{eight}
use Rattle.hb_store.specs.declared.point.Point.{Point as Mark}
use Rattle.hb_store.specs.Meanings.{next_point, IsOn, IsStored, Stays}
use Rattle.hb_disks.specs.Points.{Point, no_point}
use Rattle.hb_disks.specs.WholeImage.{header_bytes, image_bytes}
use Rattle.hb_whole.specs.declared.valid.Valid.{Valid}
use Rattle.hb_whole.specs.declared.whole.Whole.{Whole}
use Rattle.hb_whole.specs.Kept.{AreKept, Avoids, Fits, IsReady, Keeps, Stands, header_at, spare_at}
use Rattle.hb_whole.specs.Next.{next_place, next_second, next_sequence}
use Rattle.hb_whole.specs.Points.{IsMark, IsNext, IsStaged, IsWritten, due_of, has_no_place}
use Rattle.hb_whole.specs.Slots.{Entries, rows_of}
use Rattle.hb_whole.specs.Store.{keeps_in, staged_in}

-- what the disk tells is one of its images
pub read_left : (content : Option Image) (left : Image → Type 0) (read : Image) → content ≡ Some read → IfSome content left → left read
read_left content left read told is = subst (λ (o : Option Image). IfSome o left) told is

pub is_told : (content now : Option Image) (read : Image) → content ≡ Some read → is_some now ≡ is_some content → (image : Image) × (now ≡ Some image)
is_told content None read told same = absurd (true≢false (sym (ap is_some told) ∙ sym same))
is_told content (Some image) read told same = (image, refl)

-- the next image's place
abbrev pub Beside : Option Valid → ℕ → Type 0
Beside valid n = (spare_open : Bool) (p : Option Point) (image : Image) → Keeps valid spare_open p image → Avoids valid (next_place valid n) n × (128 ≤ next_place valid n)

pub free_place : (valid : Option Valid) (rows : List Stored) (next : Valid) (spare_open : Bool) (p : Option Point) (read bytes : Image) → IsNext valid rows next → Beside valid next.length → Keeps valid spare_open p read → bytes ≡ image_bytes rows
    → (128 ≤ next.place) × Avoids valid next.place (length bytes)
free_place valid rows next spare_open p read bytes plan beside keeps is =
    let free = beside spare_open p read keeps in
    let n : next.length ≡ length bytes = plan.long ∙ sym (ap length is) in
    (subst (λ (k : ℕ). 128 ≤ k) (sym plan.free) free.1, subst (λ (m : ℕ). Avoids valid next.place m) n (subst (λ (k : ℕ). Avoids valid k next.length) (sym plan.free) free.0))

-- ---- the next point is ready

spare_is : (valid : Option Valid) → header_at (next_second valid) ≡ spare_at valid
spare_is None = refl
spare_is (Some v) = refl

pub sequence_is : (valid : Option Valid) (p : Option Point) (image : Image) → Stands valid p image → (unwrap_or p no_point).sequence + 1 ≡ next_sequence valid
sequence_is None p image s = ap (λ (o : Option Point). (unwrap_or o no_point).sequence + 1) s.0
sequence_is (Some v) p image s = ap (λ (o : Option Point). (unwrap_or o no_point).sequence + 1) s.1 ∙ ap (λ (n : ℕ). n + 1) s.3

newer : (valid : Option Valid) (next : Valid) → next.second ≡ next_second valid → next.sequence ≡ next_sequence valid → IfSome valid (λ v. (next.second ≡ not v.second) × (v.sequence + 1 ≤ next.sequence))
newer None next a b = tt
newer (Some v) next a b = (a, omega (arith, b))

module _ (valid : Option Valid) (spare_open : Bool) (p : Option Point) (mark : Mark) (rows : List Stored) (next : Valid) (read : Image) (keeps : Keeps valid spare_open p read) (written : IsWritten valid rows next read) where
  pub is_ready : IsReady valid read (next_point p mark rows) next
  is_ready = record {
    other = ap header_at written.plan.other ∙ spare_is valid;
    sequence = sequence_is valid p read keeps.stands ∙ sym written.plan.sequence;
    newer = newer valid next written.plan.other written.plan.sequence;
    behind_headers = written.behind_headers;
    length = sym written.plan.long;
    imaged = written.imaged;
  }

  pub fits : IsMark mark → Fits (next_point p mark rows) next
  fits small = record {
    place_small = omega (arith, written.plan.inside);
    sequence_small = omega (arith, sequence_is valid p read keeps.stands, written.plan.sequence_small);
    length_small = omega (arith, written.plan.inside, written.plan.long);
    few = written.plan.few;
    from_small = small.0;
    floor_small = small.1;
    rows_ascend = written.sound.ascend;
    rows_are_rows = All-from_recursion IsStored rows written.sound.fit;
  }

  pub spelled : (bytes : Image) → bytes ≡ eight next.sequence ++ eight mark.from ++ eight mark.floor.0 ++ eight next.place ++ eight next.length ++ replicate 23 0
      → bytes ≡ drop 1 (header_bytes (next_point p mark rows) next.place)
  spelled bytes is =
      let s : next.sequence ≡ (unwrap_or p no_point).sequence + 1 = written.plan.sequence ∙ sym (sequence_is valid p read keeps.stands) in
      let n : next.length ≡ length (image_bytes rows) = written.plan.long in
      is ∙ (λ i. eight (s i) ++ eight mark.from ++ eight mark.floor.0 ++ eight next.place ++ eight (n i) ++ replicate 23 0)

-- ---- all that sealing asks for

pub record Ready (left : Image → Type 0) (valid : Option Valid) (p : Option Point) (mark : Mark) (rows : List Stored) (next : Valid) (read bytes : Image) : Type 0 where
  pub kept : AreKept left valid false p
  pub ready : IsReady valid read (next_point p mark rows) next
  pub fitting : Fits (next_point p mark rows) next
  pub text : bytes ≡ drop 1 (header_bytes (next_point p mark rows) next.place)

pub all_ready : (s : Whole) (point mark : Mark) (next : Valid) (p : Option Point) (content : Option Image) (left : Image → Type 0) (bytes : Image) → s.begun ≡ Some point → s.begun ≡ Some mark → s.written ≡ Some next
    → bytes ≡ eight next.sequence ++ eight point.from ++ eight point.floor.0 ++ eight next.place ++ eight next.length ++ replicate 23 0 → IfSome content left
    → (on : IsOn keeps_in staged_in content left s p) → Ready left s.valid p mark (rows_of s.slots) next on.read bytes
all_ready s point mark next p content left bytes known begun written is as_read on =
    let same : point ≡ mark = ap (λ (o : Option Mark). unwrap_or o point) (sym known ∙ begun) in
    let text : bytes ≡ eight next.sequence ++ eight mark.from ++ eight mark.floor.0 ++ eight next.place ++ eight next.length ++ replicate 23 0 =
    subst (λ (m : Mark). bytes ≡ eight next.sequence ++ eight m.from ++ eight m.floor.0 ++ eight next.place ++ eight next.length ++ replicate 23 0) same is in
    let staged : IsStaged s.begun s.valid s.spare_open (rows_of s.slots) s.written on.read = on.stands in
    let shut : s.spare_open ≡ false = staged.closed (ap is_some written) in
    let small : IsMark mark = subst (λ (o : Option Mark). IfSome o IsMark) begun staged.mark in
    let stands : IsWritten s.valid (rows_of s.slots) next on.read = subst (λ (o : Option Valid). IfSome o (λ n. IsWritten s.valid (rows_of s.slots) n on.read)) written staged.stands in
    let kept : AreKept left s.valid false p = subst (λ (b : Bool). AreKept left s.valid b p) shut on.each in
    let mine = kept on.read (read_left content left on.read on.told as_read) in
    record {
      kept = kept;
      ready = is_ready s.valid false p mark (rows_of s.slots) next on.read mine stands;
      fitting = fits s.valid false p mark (rows_of s.slots) next on.read mine stands small;
      text = spelled s.valid false p mark (rows_of s.slots) next on.read mine stands bytes text;
    }

-- where no point is begun nothing is staged
pub none_staged : (valid : Option Valid) (spare_open : Bool) (rows : List Stored) (read : Image) → IsStaged None valid spare_open rows None read
none_staged valid spare_open rows read = record { mark = tt; closed = λ t. absurd (true≢false (sym t)); stands = tt }

-- ---- whether there is a place

or_first : (x y : Bool) → x ≡ true → (x || y) ≡ true
or_first true y e = refl
or_first false y e = absurd (true≢false (sym e))

or_second : (x y : Bool) → y ≡ true → (x || y) ≡ true
or_second true y e = refl
or_second false y e = e

or_none : (x y : Bool) → x ≡ false → y ≡ false → (x || y) ≡ false
or_none true y e f = absurd (true≢false e)
or_none false y e f = f

pub no_sequence : (valid : Option Valid) (rows : List Stored) → 2 ^ 62 < next_sequence valid → has_no_place valid rows ≡ true
no_sequence valid rows high = or_first (nat_lt (2 ^ 62) (next_sequence valid) || nat_le (2 ^ 32) (length rows)) _ (or_first (nat_lt (2 ^ 62) (next_sequence valid)) _ (lt-ltb (2 ^ 62) (next_sequence valid) high))

pub too_many : (valid : Option Valid) (rows : List Stored) → 2 ^ 32 ≤ length rows → has_no_place valid rows ≡ true
too_many valid rows many = or_first (nat_lt (2 ^ 62) (next_sequence valid) || nat_le (2 ^ 32) (length rows)) _ (or_second (nat_lt (2 ^ 62) (next_sequence valid)) (nat_le (2 ^ 32) (length rows)) (le-leb (2 ^ 32) (length rows) many))

pub too_far : (valid : Option Valid) (rows : List Stored) (n : ℕ) → n ≡ length (image_bytes rows) → 2 ^ 62 < next_place valid n + n → has_no_place valid rows ≡ true
too_far valid rows n is far =
    or_second (nat_lt (2 ^ 62) (next_sequence valid) || nat_le (2 ^ 32) (length rows)) (nat_lt (2 ^ 62) (next_place valid (length (image_bytes rows)) + length (image_bytes rows)))
    (lt-ltb (2 ^ 62) (next_place valid (length (image_bytes rows)) + length (image_bytes rows)) (subst (λ (k : ℕ). 2 ^ 62 < next_place valid k + k) is far))

pub has_place : (valid : Option Valid) (rows : List Stored) (n : ℕ) → n ≡ length (image_bytes rows) → next_sequence valid ≤ 2 ^ 62 → length rows < 2 ^ 32 → next_place valid n + n ≤ 2 ^ 62 → has_no_place valid rows ≡ false
has_place valid rows n is low few near =
    or_none (nat_lt (2 ^ 62) (next_sequence valid) || nat_le (2 ^ 32) (length rows)) (nat_lt (2 ^ 62) (next_place valid (length (image_bytes rows)) + length (image_bytes rows)))
    (or_none (nat_lt (2 ^ 62) (next_sequence valid)) (nat_le (2 ^ 32) (length rows)) (le-ltb (2 ^ 62) (next_sequence valid) low) (lt-leb (2 ^ 32) (length rows) few))
    (le-ltb (2 ^ 62) (next_place valid (length (image_bytes rows)) + length (image_bytes rows)) (subst (λ (k : ℕ). next_place valid k + k ≤ 2 ^ 62) is near))

-- ---- a store that goes on over a disk still does

pub stays_slots : (s : Whole) (slots : Entries) → rows_of slots ≡ rows_of s.slots → Stays keeps_in staged_in s (record s { slots = slots })
stays_slots s slots same = record {
  keeps_on = λ p image k. k;
  stands_on = λ image staged. subst (λ (rows : List Stored). IsStaged s.begun s.valid s.spare_open rows s.written image) (sym same) staged;
}

pub stays_changed : (s : Whole) (slots : Entries) → Stays keeps_in staged_in s (record s { slots = slots; written = None })
stays_changed s slots = record {
  keeps_on = λ p image k. k;
  stands_on = λ image staged. record { mark = staged.mark; closed = λ t. absurd (true≢false (sym t)); stands = tt };
}

pub stays_begun : (s : Whole) (mark : Mark) → IsMark mark → Stays keeps_in staged_in s (record s { begun = Some mark; written = None })
stays_begun s mark small = record {
  keeps_on = λ p image k. k;
  stands_on = λ image staged. record { mark = small; closed = λ t. absurd (true≢false (sym t)); stands = tt };
}

-- a store that took over what was found goes on over it
pub taken_on : (content : Option Image) (left : Image → Type 0) (s : Whole) (p : Option Point) (valid : Option Valid) (spare_open : Bool) (read : Image) → content ≡ Some read → s.begun ≡ None → s.written ≡ None
    → s.valid ≡ valid → s.spare_open ≡ spare_open → AreKept left valid spare_open p → IsOn keeps_in staged_in content left s p
taken_on content left s p valid spare_open read told no_point unwritten v o kept = record {
  read = read;
  told = told;
  stands = subst (λ (b : Option Mark). IsStaged b s.valid s.spare_open (rows_of s.slots) s.written read) (sym no_point)
      (subst (λ (w : Option Valid). IsStaged None s.valid s.spare_open (rows_of s.slots) w read) (sym unwritten) (none_staged s.valid s.spare_open (rows_of s.slots) read));
  each = λ image is. subst (λ (w : Option Valid). Keeps w s.spare_open p image) (sym v) (subst (λ (b : Bool). Keeps valid b p image) (sym o) (kept image is));
}

-- a point that is dropped
pub dropped_on : (content : Option Image) (left : Image → Type 0) (s : Whole) (p : Option Point) → IsOn keeps_in staged_in content left s p → IsOn keeps_in staged_in content left (record s { begun = None }) p
dropped_on content left s p on = record {
  read = on.read;
  told = on.told;
  stands = record { mark = tt; closed = on.stands.closed; stands = on.stands.stands };
  each = on.each;
}

-- what a point still needs
pub due_one : (begun : Option Mark) (written : Option Valid) → is_some begun ≡ true → written ≡ None → due_of begun written ≡ 1
due_one begun written some none = ap (λ (w : Option Valid). due_of begun w) none ∙ one begun some
  where
    one : (begun : Option Mark) → is_some begun ≡ true → due_of begun None ≡ 1
    one None e = absurd (true≢false (sym e))
    one (Some m) e = refl

pub due_zero : (begun : Option Mark) (written : Option Valid) (next : Valid) → written ≡ Some next → due_of begun written ≡ 0
due_zero begun written next some = ap (λ (w : Option Valid). due_of begun w) some ∙ zero begun
  where
    zero : (begun : Option Mark) → due_of begun (Some next) ≡ 0
    zero None = refl
    zero (Some m) = refl
