-- A disk that stands over another, whose last moment may be a later one.
use Rattle.std.specs.Prelude.{◌≡◌, ℕ, ◌+◌, ◌≤◌, max, Option, Some, None, IfSome, Result, Ok, Err, OnErr}
use Rattle.std.proofs.Common.{arith}
use Rattle.hb_edge.specs.Causes.{risen, HasCause, Rose}
use Rattle.hb_edge.specs.Images.{Image}
use Rattle.hb_edge.specs.Stops.{Passes}

module _ (left : ℕ → Image → Type 0) (last later : ℕ) (stands : (m : ℕ) (c : Image) → last ≤ m → left m c → left last c) (stands_on : (m : ℕ) (c : Image) → last ≤ m → left last c → left m c) where
  pub stands_later : (m : ℕ) (c : Image) → max last later ≤ m → left m c → left (max last later) c
  stands_later m c le is = stands_on (max last later) c (omega arith) (stands m c (omega (arith, le)) is)

  pub stands_on_later : (m : ℕ) (c : Image) → max last later ≤ m → left (max last later) c → left m c
  stands_on_later m c le is = stands_on m c (omega (arith, le)) (stands (max last later) c (omega arith) is)

-- what a read gives is one of the images
pub read_later : (content : Option Image) (left : ℕ → Image → Type 0) (last later : ℕ) → ((m : ℕ) (c : Image) → last ≤ m → left last c → left m c) → IfSome content (left last) → IfSome content (left (max last later))
read_later None left last later stands_on is = tt
read_later (Some c) left last later stands_on is = stands_on (max last later) c (omega arith) is

-- a call of the inner disk is one of the outer
pub passes_later : (step : Image → Image → Type 0) (at last later : ℕ) (old new : ℕ → Image → Type 0) → ((m : ℕ) (c : Image) → last ≤ m → old last c → old m c) → Passes step at last old new → Passes step at (max last later) old new
passes_later step at last later old new stands_on passes = record {
  before = passes.before;
  keeps = passes.keeps;
  since = λ m c le is. let s = passes.since m c (omega (arith, le)) is in (s.0, stands_on (max last later) s.0 (omega arith) s.1, s.2);
}

-- a call that isn't made on it
pub passes_over : (step : Image → Image → Type 0) (at last : ℕ) (left : ℕ → Image → Type 0) → ((m : ℕ) (c : Image) → last ≤ m → left m c → left last c) → ((c : Image) → step c c) → Passes step at last left left
passes_over step at last left stands stays = record {
  before = λ m c lt is. is;
  keeps = λ m c lt is. is;
  since = λ m c le is. (c, stands m c (omega (arith, le)) is, stays c);
}

-- a failure of its own is a cause
pub own_failure : {T E : Type 0} (failures now inner inner_now : ℕ) (result : Result T E) → now ≡ risen failures → inner_now ≡ inner → HasCause (failures + inner) (now + inner_now) result
own_failure {T} {E} failures now inner inner_now result is same = record { later = omega (arith, is, same); failed = rose result }
  where
    rose : (r : Result T E) → OnErr r (Rose (failures + inner) (now + inner_now))
    rose (Ok x) = tt
    rose (Err e) = omega (arith, is, same)
