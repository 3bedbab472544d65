-- Steps of one session leave the others, and a session that can't go on stays so.
use Rattle.std.proofs.Common.{◌≡◌, ◌≢◌, ◌⊎◌, ℕ, Bool, true, false, not, ◌&&◌, ◌||◌, List, ap, ◌∙◌, sym, refl, inl, inr}
use Rattle.std.specs.Prelude.{Option, Some, None, slice_get}
use Rattle.std.proofs.lemmas.Bool.{cases_eq, false≢true}
use Rattle.hb_caller.specs.Calling.{in_transaction}
use Rattle.hb_caller.specs.declared.caller.Progress.{Progress}
use Rattle.hb_stepper.specs.declared.seat.Seat.{Seat}
use Rattle.hb_stepper.specs.Running.{Running, seat_is, is_seat, busy, waits, going, asked, open_now}
use Rattle.hb_stepper.specs.Steps.{OneStep, Ran, not_yet, ran, Asked, nobody, another, Round, Rounds, no_round, round, Resumed}
use Rattle.hb_stepper.proofs.Seats.{set_elsewhere}

pub step_others : (a b : Running) (place : ℕ) (shows : Progress) → OneStep a b place shows → (k : ℕ) → k ≢ place → slice_get b.seats k ≡ slice_get a.seats k
step_others a b place shows h k apart = ap (λ (xs : List Seat). slice_get xs k) h.seats ∙ set_elsewhere a.seats place k h.now apart

pub ran_others : (place : ℕ) (a : Running) (n : ℕ) (b : Running) → Ran place a n b → (k : ℕ) → k ≢ place → slice_get b.seats k ≡ slice_get a.seats k
ran_others place a n b not_yet k apart = refl
ran_others place a n b (ran m mid to shows h on last) k apart = step_others mid to place shows last k apart ∙ ran_others place a m mid h k apart

-- ---- of a session

held_back : (a b c : Bool) → (a && b && c) ≡ true → (a && not b) ≡ false
held_back true true c h = refl
held_back true false c h = absurd (false≢true h)
held_back false b c h = absurd (false≢true h)

is_held_back : (o : Option Seat) → is_seat asked o ≡ true → is_seat going o ≡ false
is_held_back None h = absurd (false≢true h)
is_held_back (Some s) h = held_back (busy s) (waits s) (not s.held) h

-- one that is asked and waits on can't go on
pub asked_stops : (seats : List Seat) (place : ℕ) → seat_is asked seats place ≡ true → seat_is going seats place ≡ false
asked_stops seats place h = is_held_back (slice_get seats place) h

shut : (a b c : Bool) → (a || c) ≡ false → (a && b) ≡ false
shut true b c h = absurd (false≢true (sym h))
shut false b c h = refl

is_shut : (o : Option Seat) → is_seat open_now o ≡ false → is_seat going o ≡ false
is_shut None h = refl
is_shut (Some s) h = shut (busy s) (not (waits s)) (in_transaction s.caller) h

-- one with neither a transaction nor anything in progress can't go on
pub over_stops : (seats : List Seat) (place : ℕ) → seat_is open_now seats place ≡ false → seat_is going seats place ≡ false
over_stops seats place h = is_shut (slice_get seats place) h

-- ---- it stays so

pub kept_at : (test : Seat → Bool) (xs ys : List Seat) (k : ℕ) (b : Bool) → slice_get ys k ≡ slice_get xs k → seat_is test xs k ≡ b → seat_is test ys k ≡ b
kept_at test xs ys k b e h = ap (λ (o : Option Seat). is_seat test o) e ∙ h

-- at the place that was stepped it is so, and elsewhere it was
either : (test : Seat → Bool) (a b : Running) (place k : ℕ) → ((j : ℕ) → j ≢ place → slice_get b.seats j ≡ slice_get a.seats j) → seat_is test b.seats place ≡ false → seat_is test a.seats k ≡ false
    → (k ≡ place) ⊎ (k ≢ place) → seat_is test b.seats k ≡ false
either test a b place k others here h (inl e) = ap (λ (j : ℕ). seat_is test b.seats j) e ∙ here
either test a b place k others here h (inr apart) = kept_at test a.seats b.seats k false (others k apart) h

pub stays_off : (test : Seat → Bool) (a b : Running) (place : ℕ) → ((j : ℕ) → j ≢ place → slice_get b.seats j ≡ slice_get a.seats j) → seat_is test b.seats place ≡ false
    → (k : ℕ) → seat_is test a.seats k ≡ false → seat_is test b.seats k ≡ false
stays_off test a b place others here k h = either test a b place k others here h (cases_eq k place)

pub asked_stay : (a : Running) (places : List ℕ) (b : Running) → Asked a places b → (k : ℕ) → seat_is going a.seats k ≡ false → seat_is going b.seats k ≡ false
asked_stay a places b nobody k h = h
asked_stay a places b (another front mid to place shows turn last before after) k h =
    stays_off going mid to place (step_others mid to place shows last) (asked_stops to.seats place after) k (asked_stay a front mid turn k h)

ran_or_not : (place : ℕ) (a b : Running) (n : ℕ) (c : Running) → ((j : ℕ) → j ≢ place → slice_get b.seats j ≡ slice_get a.seats j) → Ran place b n c
    → (j : ℕ) → j ≢ place → slice_get c.seats j ≡ slice_get a.seats j
ran_or_not place a b n c others h j apart = ran_others place b n c h j apart ∙ others j apart

round_stays : (a b : Running) → Round a b → (k : ℕ) → seat_is going a.seats k ≡ false → seat_is going b.seats k ≡ false
round_stays a b h k stopped =
    let r = h.ready in
    stays_off going r.mid b h.place (ran_or_not h.place r.mid h.mid h.count b (step_others r.mid h.mid h.place r.shows r.ready) h.ran) h.stopped k (asked_stay a r.front r.mid r.waiting k stopped)

rounds_stay : (a b : Running) → Rounds a b → (k : ℕ) → seat_is going a.seats k ≡ false → seat_is going b.seats k ≡ false
rounds_stay a b no_round k h = h
rounds_stay a b (round mid to rounds last) k h = round_stays mid to last k (rounds_stay a mid rounds k h)

pub resumed_stay : (a b : Running) → Resumed a b → (k : ℕ) → seat_is going a.seats k ≡ false → seat_is going b.seats k ≡ false
resumed_stay a b h k stopped = asked_stay h.mid _ b h.waiting k (rounds_stay a h.mid h.rounds k stopped)
