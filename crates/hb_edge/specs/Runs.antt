-- What a stop may leave at each moment of a run of calls of one disk, call by call.
use Rattle.std.specs.Prelude.{◌≡◌, ◌⊎◌, ℕ, ◌<◌, ◌≤◌, max}
use Rattle.std.proofs.Common.{inl, inr, ⊎_elim, arith}
use Rattle.std.proofs.lemmas.Bool.{cases_lt}
use Rattle.hb_edge.specs.Images.{Image}
use Rattle.hb_edge.specs.Moments.{tick}
use Rattle.hb_edge.specs.Stops.{Passes, Leaves}

-- before the first call
pub started : (from last : ℕ) (left : ℕ → Image → Type 0) (P : ℕ → Image → Type 0) → ((m : ℕ) (c : Image) → last ≤ m → left m c → left last c) → last ≤ from
    → ((m : ℕ) (c : Image) → from ≤ m → left last c → P m c) → Leaves from left left P
started from last left P stands in_time here = record {
  each = λ m c le now. here m c le (stands m c (omega (arith, in_time, le)) now);
  before = λ m c lt was. was;
  keeps = λ m c lt was. was;
}

-- one call more, at a moment that isn't before the last one
pub goes_on : (from at last : ℕ) (step : Image → Image → Type 0) (old mid new : ℕ → Image → Type 0) (P : ℕ → Image → Type 0) → from ≤ at → last ≤ at
    → Leaves from old mid P → Passes step at last mid new
    → ((m : ℕ) (d c : Image) → at ≤ m → mid last d → step d c → P m c) → Leaves from old new P
goes_on from at last step old mid new P from_le last_le so_far call here = record {
  each = λ m c le now. each m c le now;
  before = λ m c lt now. so_far.before m c lt (call.before m c (omega (arith, lt, from_le)) now);
  keeps = λ m c lt was. call.keeps m c (omega (arith, lt, from_le)) (so_far.keeps m c lt was);
}
  where
    late : (m : ℕ) (c : Image) → at ≤ m → new m c → P m c
    late m c le now = let s = call.since m c (omega (arith, le, last_le)) now in here m s.0 c le s.1 s.2

    each : (m : ℕ) (c : Image) → from ≤ m → new m c → P m c
    each m c le now = ⊎_elim (λ early. so_far.each m c le (call.before m c early now)) (λ l. late m c l now) (cases_lt m at)

-- what is left has more besides
pub weaker : (from : ℕ) (old new : ℕ → Image → Type 0) (P Q : ℕ → Image → Type 0) → ((m : ℕ) (c : Image) → from ≤ m → P m c → Q m c) → Leaves from old new P → Leaves from old new Q
weaker from old new P Q more leaves = record { each = λ m c le now. more m c le (leaves.each m c le now); before = leaves.before; keeps = leaves.keeps }

-- two runs, one after the other
pub then_leaves : (from then_from : ℕ) (old mid new : ℕ → Image → Type 0) (P Q : ℕ → Image → Type 0) → from ≤ then_from → Leaves from old mid P → Leaves then_from mid new Q
    → Leaves from old new (λ m c. ((m < then_from) × P m c) ⊎ ((then_from ≤ m) × Q m c))
then_leaves from then_from old mid new P Q le first second = record {
  each = λ m c from_le now. ⊎_elim (λ early. inl (early, first.each m c from_le (second.before m c early now))) (λ late. inr (late, second.each m c late now)) (cases_lt m then_from);
  before = λ m c lt now. first.before m c lt (second.before m c (omega (arith, lt, le)) now);
  keeps = λ m c lt was. second.keeps m c (omega (arith, lt, le)) (first.keeps m c lt was);
}

-- A run of calls of one disk that began at a moment: a stop since then leaves an image with P. `now` is known of what is left at the last call.
pub record Run (from : ℕ) (old new : ℕ → Image → Type 0) (last clock : ℕ) (now P : Image → Type 0) : Type 0 where
  pub leaves : Leaves from old new (λ m c. P c)
  pub here : (c : Image) → new last c → now c
  pub in_time : last ≤ clock
  pub later : from ≤ clock

-- before the first call
pub begins : (clock last : ℕ) (left : ℕ → Image → Type 0) (now P : Image → Type 0) → ((m : ℕ) (c : Image) → last ≤ m → left m c → left last c) → last ≤ clock
    → ((c : Image) → left last c → now c) → ((c : Image) → now c → P c) → Run clock left left last clock now P
begins clock last left now P stands in_time here enough = record {
  leaves = started clock last left (λ m c. P c) stands in_time (λ m c le is. enough c (here c is));
  here = here;
  in_time = in_time;
  later = omega arith;
}

-- one call more
pub call : (from last clock last_now clock_now : ℕ) (step : Image → Image → Type 0) (old mid new : ℕ → Image → Type 0) (now next P : Image → Type 0)
    → Run from old mid last clock now P → clock_now ≡ tick clock → last_now ≡ max last clock_now → Passes step clock_now last mid new
    → ((d c : Image) → now d → step d c → next c) → ((c : Image) → next c → P c) → Run from old new last_now clock_now next P
call from last clock last_now clock_now step old mid new now next P run ticks is_last passes steps enough = record {
  leaves = goes_on from clock_now last step old mid new (λ m c. P c) (omega (arith, run.later, ticks)) (omega (arith, run.in_time, ticks)) run.leaves passes
      (λ m d c le was is. enough c (steps d c (run.here d was) is));
  here = λ c is. let s = passes.since last_now c (omega (arith, is_last)) is in steps s.0 c (run.here s.0 s.1) s.2;
  in_time = omega (arith, is_last, run.in_time, ticks);
  later = omega (arith, run.later, ticks);
}

-- what is left now is known better
pub knows : (from last clock : ℕ) (old new : ℕ → Image → Type 0) (now next P : Image → Type 0) → Run from old new last clock now P → ((c : Image) → new last c → next c) → Run from old new last clock next P
knows from last clock old new now next P run better = record { leaves = run.leaves; here = better; in_time = run.in_time; later = run.later }
