-- Disks of which each image left has a fact: a call more, and what a stop of a server leaves.
use Rattle.std.proofs.Common.{◌≡◌, ⊎_elim, ℕ, ◌<◌, ◌≤◌, max, refl, sym, ◌∙◌, subst, arith, true}
use Rattle.std.specs.Prelude.{Option, Some, None, IfSome, is_some}
use Rattle.std.proofs.lemmas.Bool.{cases_lt, false≢true}
use Rattle.hb_edge.specs.Images.{Image, Same}
use Rattle.hb_edge.specs.Moments.{tick}
use Rattle.hb_edge.specs.Stops.{Leaves, Passes}
use Rattle.hb_server.specs.Law.{Rests}

pub told_some : {A : Type 0} (o : Option A) → is_some o ≡ true → (x : A) × (o ≡ Some x)
told_some None is = absurd (false≢true is)
told_some (Some x) is = (x, refl)

pub at_some : {A : Type 0} (o : Option A) (x : A) (P : A → Type 0) → o ≡ Some x → IfSome o P → P x
at_some o x P is has = subst (λ p. IfSome p P) is has

-- no call is made
pub unmoved : (from last : ℕ) (left : ℕ → Image → Type 0) (P : ℕ → Image → Type 0) → ((m : ℕ) (image : Image) → last ≤ m → left m image → left last image) → last ≤ from → ((m : ℕ) (image : Image) → left last image → P m image) → Leaves from left left P
unmoved from last left P stands in_time here = record {
  each = λ m image le is. here m image (stands m image (omega (arith, le, in_time)) is);
  before = λ m image lt is. is;
  keeps = λ m image lt is. is;
}

module _ {D : Type 0} (content : D → Option Image) (left : D → ℕ → Image → Type 0) (last : D → ℕ) (P : Image → Type 0) (old : D) (before : ℕ) (rests : Rests content left last P old before) where
  -- a call that leaves the images as they are
  pub same_leaves : (new : D) (then : ℕ) → ((m : ℕ) (image : Image) → last old ≤ m → left old m image → left old (last old) image) → then ≡ tick before → Passes Same then (last old) (left old) (left new)
      → Leaves before (left old) (left new) (λ m image. P image)
  same_leaves new then stands ticks passes = record {
    each = λ m image le is. ⊎_elim (λ lt. early m image le lt is) (λ late. after m image late is) (cases_lt m then);
    before = λ m image lt is. passes.before m image (omega (arith, lt, ticks)) is;
    keeps = λ m image lt is. passes.keeps m image (omega (arith, lt, ticks)) is;
  }
    where
      early : (m : ℕ) (image : Image) → before ≤ m → m < then → left new m image → P image
      early m image le lt is = let time = rests.in_time in rests.each image (stands m image (omega (arith, time, le)) (passes.before m image lt is))

      after : (m : ℕ) (image : Image) → then ≤ m → left new m image → P image
      after m image late is =
          let time = rests.in_time in
          let s = passes.since m image (omega (arith, late, time, ticks)) is in subst P (sym s.2) (rests.each s.0 s.1)

  -- what is left after a call
  pub rests_then : (new : D) (after : ℕ) → ((m : ℕ) (image : Image) → last new ≤ m → left new (last new) image → left new m image) → Leaves before (left old) (left new) (λ m image. P image) → is_some (content new) ≡ is_some (content old) → last new ≤ after
      → Rests content left last P new after
  rests_then new after stands_on leaves told in_time = record {
    told = told ∙ rests.told;
    in_time = in_time;
    each = λ image is. leaves.each (max (last new) before) image (omega arith) (stands_on (max (last new) before) image (omega arith) is);
  }

  pub rests_later : (after : ℕ) → before ≤ after → Rests content left last P old after
  rests_later after le = record { told = rests.told; in_time = let time = rests.in_time in omega (arith, time, le); each = rests.each }

  -- what the disk reads as is left
  pub read_has : (read : Image) → IfSome (content old) (left old (last old)) → content old ≡ Some read → P read
  read_has read as_read is = rests.each read (at_some (content old) read (left old (last old)) is as_read)

-- two runs of calls, one after the other
pub leaves_then : (from middle : ℕ) (old mid new : ℕ → Image → Type 0) (P : ℕ → Image → Type 0) → from ≤ middle → Leaves from old mid P → Leaves middle mid new P → Leaves from old new P
leaves_then from middle old mid new P le one two = record {
  each = λ m image from_le is. ⊎_elim (λ early. one.each m image from_le (two.before m image early is)) (λ late. two.each m image late is) (cases_lt m middle);
  before = λ m image lt is. one.before m image lt (two.before m image (omega (arith, lt, le)) is);
  keeps = λ m image lt is. two.keeps m image (omega (arith, lt, le)) (one.keeps m image lt is);
}
