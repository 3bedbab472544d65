-- The sessions in turn, at a script's end.
use Rattle.std.proofs.Common.{◌≡◌, ◌≢◌, ℕ, ◌+◌, ◌<◌, ◌≤◌, Bool, false, List, length, ap, ◌∙◌, subst, refl, inl, inr, ◌⊎◌, below_more, arith}
use Rattle.std.specs.Prelude.{Option, slice_get}
use Rattle.std.proofs.lemmas.Bool.{cases_lt}
use Rattle.std.proofs.lemmas.List.{length-set}
use Rattle.std.proofs.lemmas.Option.{slice_get_past}
use Rattle.hb_stepper.specs.declared.seat.Seat.{Seat}
use Rattle.hb_stepper.specs.Closing.{InTurn, GivesUp, RollsBack, RunsOn, runs_on, rests, IsClosed, rolled_back, has_none}
use Rattle.hb_stepper.specs.Running.{Running, seat_is, is_seat, going, open_now}
use Rattle.hb_stepper.proofs.Adding.{Grows, adds_same, count_made}
use Rattle.hb_stepper.proofs.Others.{over_stops, ran_others, resumed_stay, stays_off}
use Rattle.hb_stepper.proofs.Seats.{set_elsewhere}
use Rattle.hb_stepper.proofs.Stepping.{made_ran}

-- ---- past the sessions there is none

pub past_is : (test : Seat → Bool) (seats : List Seat) (k : ℕ) → length seats ≤ k → seat_is test seats k ≡ false
past_is test seats k h = ap (λ (o : Option Seat). is_seat test o) (slice_get_past seats k h)

-- ---- the first half

pub ran_stops : (a b : Running) (place : ℕ) → RunsOn a place b → (k : ℕ) → seat_is going a.seats k ≡ false → seat_is going b.seats k ≡ false
ran_stops a b place (runs_on out new on r more) k h =
    resumed_stay out new more k (stays_off going a out place (ran_others place a r.count out r.ran) r.stopped k h)
ran_stops a b place (rests off) k h = h

pub ran_here : (a b : Running) (place : ℕ) → RunsOn a place b → seat_is going b.seats place ≡ false
ran_here a b place (runs_on out new on r more) = resumed_stay out new more place r.stopped
ran_here a b place (rests off) = off

-- ---- the second half

given_up_others : (a b : Running) (place : ℕ) → GivesUp a place b → (k : ℕ) → k ≢ place → slice_get b.seats k ≡ slice_get a.seats k
given_up_others a b place h k apart = ap (λ (r : Running). slice_get r.seats k) h.becomes ∙ set_elsewhere a.seats place k h.now apart

rolled_others : (a b : Running) (place : ℕ) → RollsBack a place b → (k : ℕ) → k ≢ place → slice_get b.seats k ≡ slice_get a.seats k
rolled_others a b place h k apart = ran_others place h.mid h.ran.count b h.ran.ran k apart ∙ given_up_others a h.mid place h.given_up k apart

pub closed_here : (a b : Running) (place : ℕ) → IsClosed a place b → seat_is open_now b.seats place ≡ false
closed_here a b place (rolled_back new was r) = r.over
closed_here a b place (has_none off) = off

pub closed_off : (test : Seat → Bool) (a b : Running) (place : ℕ) → IsClosed a place b → seat_is test b.seats place ≡ false → (k : ℕ) → seat_is test a.seats k ≡ false → seat_is test b.seats k ≡ false
closed_off test a b place (rolled_back new was r) here k h = stays_off test a new place (rolled_others a new place r) here k h
closed_off test a b place (has_none off) here k h = h

pub closed_count : (a b : Running) (place : ℕ) → IsClosed a place b → length b.seats ≡ length a.seats
closed_count a b place (rolled_back new was r) =
    count_made r.mid new (made_ran place r.mid r.ran.count new r.ran.ran) ∙ ap (λ (x : Running). length x.seats) r.given_up.becomes ∙ length-set a.seats place r.given_up.now
closed_count a b place (has_none off) = refl

pub grows_given_up : (a b : Running) (place : ℕ) → GivesUp a place b → Grows a b
grows_given_up a b place h = record {
  lines = adds_same a.lines b.lines (ap (λ (r : Running). r.lines) h.becomes);
  names = adds_same a.names b.names (ap (λ (r : Running). r.names) h.becomes);
}

-- ---- all places

all_at : (test : Seat → Bool) (seats : List Seat) (n : ℕ) → length seats ≤ n → ((k : ℕ) → k < n → seat_is test seats k ≡ false) → (k : ℕ) → (k < n) ⊎ (n ≤ k) → seat_is test seats k ≡ false
all_at test seats n h below k (inl early) = below k early
all_at test seats n h below k (inr late) = past_is test seats k (omega arith)

pub all_off : (test : Seat → Bool) (seats : List Seat) (n : ℕ) → length seats ≤ n → ((k : ℕ) → k < n → seat_is test seats k ≡ false) → (k : ℕ) → seat_is test seats k ≡ false
all_off test seats n h below k = all_at test seats n h below k (cases_lt k n)

pub turns_at : (does : Running → ℕ → Running → Type 0) (a : Running) (n m : ℕ) (b : Running) → n ≡ m → InTurn does a n b → InTurn does a m b
turns_at does a n m b e h = subst (λ (k : ℕ). InTurn does a k b) e h

pub ran_below : (a b : Running) (place : ℕ) → RunsOn a place b → ((k : ℕ) → k < place → seat_is going a.seats k ≡ false) → (k : ℕ) → k < place + 1 → seat_is going b.seats k ≡ false
ran_below a b place h below = below_more (λ k. seat_is going b.seats k ≡ false) place (λ k early. ran_stops a b place h k (below k early)) (ran_here a b place h)

pub closed_below : (a b : Running) (place : ℕ) → IsClosed a place b → ((k : ℕ) → k < place → seat_is open_now a.seats k ≡ false) → (k : ℕ) → k < place + 1 → seat_is open_now b.seats k ≡ false
closed_below a b place h below = below_more (λ k. seat_is open_now b.seats k ≡ false) place (λ k early. closed_off open_now a b place h (closed_here a b place h) k (below k early)) (closed_here a b place h)

pub closed_stops : (a b : Running) (place : ℕ) → IsClosed a place b → ((k : ℕ) → seat_is going a.seats k ≡ false) → (k : ℕ) → seat_is going b.seats k ≡ false
closed_stops a b place h all k = closed_off going a b place h (over_stops b.seats place (closed_here a b place h)) k (all k)
