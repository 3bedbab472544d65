-- Calls that change nothing, one after another.
use Rattle.std.proofs.Common.{◌≡◌, ⊎_elim, ℕ, ◌≤◌, max, subst, sym, arith}
use Rattle.hb_edge.specs.Images.{Image, Same}
use Rattle.hb_edge.specs.Moments.{tick}
use Rattle.hb_edge.specs.Runs.{goes_on, started, then_leaves, weaker}
use Rattle.hb_edge.specs.Stops.{Passes}
use Rattle.hb_whole.specs.Points.{IsQuiet}

abbrev Left : Type 1
Left = ℕ → Image → Type 0

pub quiet_none : (clock last : ℕ) (left : Left) → ((m : ℕ) (c : Image) → last ≤ m → left m c → left last c) → IsQuiet clock clock left left last last
quiet_none clock last left stands = record {
  later = omega arith;
  in_time = λ le. le;
  leaves = λ le. started clock last left (λ m c. left last c) stands le (λ m c at is. is);
  here = λ c is. is;
}

pub quiet_call : (clock0 last0 clock1 last1 : ℕ) (left0 left1 : Left) → ((m : ℕ) (c : Image) → last0 ≤ m → left0 m c → left0 last0 c) → clock1 ≡ tick clock0 → last1 ≡ max last0 clock1
    → Passes Same clock1 last0 left0 left1 → IsQuiet clock0 clock1 left0 left1 last0 last1
quiet_call clock0 last0 clock1 last1 left0 left1 stands ticks is_last passes = record {
  later = omega (arith, ticks);
  in_time = λ le. omega (arith, ticks, is_last, le);
  leaves = λ le. goes_on clock0 clock1 last0 Same left0 left0 left1 (λ m c. left0 last0 c) (omega (arith, ticks)) (omega (arith, ticks, le))
      (started clock0 last0 left0 (λ m c. left0 last0 c) stands le (λ m c at is. is)) passes (λ m d c at was same. subst (left0 last0) (sym same) was);
  here = λ c is. let s = passes.since last1 c (omega (arith, is_last)) is in subst (left0 last0) (sym s.2) s.1;
}

pub quiet_then : (clock0 last0 clock1 last1 clock2 last2 : ℕ) (left0 left1 left2 : Left) → IsQuiet clock0 clock1 left0 left1 last0 last1 → IsQuiet clock1 clock2 left1 left2 last1 last2 → IsQuiet clock0 clock2 left0 left2 last0 last2
quiet_then clock0 last0 clock1 last1 clock2 last2 left0 left1 left2 a b = record {
  later = omega (arith, a.later, b.later);
  in_time = λ le. b.in_time (a.in_time le);
  leaves = λ le. weaker clock0 left0 left2 _ (λ m c. left0 last0 c) (λ m c at e. ⊎_elim (λ l. l.1) (λ r. a.here c r.1) e)
      (then_leaves clock0 clock1 left0 left1 left2 (λ m c. left0 last0 c) (λ m c. left1 last1 c) a.later (a.leaves le) (b.leaves (a.in_time le)));
  here = λ c is. a.here c (b.here c is);
}
