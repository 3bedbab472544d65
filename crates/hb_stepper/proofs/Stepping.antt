-- Steps one behind another.
use Rattle.std.proofs.Common.{◌≡◌, ℕ, Bool, true, false, ◌&&◌, List, sym, subst, refl}
use Rattle.std.specs.Prelude.{Option, Some, None, Result, Ok, Err, OnErr, slice_get}
use Rattle.std.proofs.lemmas.Bool.{false≢true}
use Rattle.hb_caller.specs.declared.caller.Progress.{Progress}
use Rattle.hb_node.specs.Lists.{Onward, here, onward}
use Rattle.hb_stepper.specs.Running.{Running, seat_is, is_seat, busy, going}
use Rattle.hb_stepper.specs.Steps.{OneStep, Made, at_start, made, Ran, not_yet, ran, Asked, nobody, another, IsReady, Round, Rounds, no_round, round}
use Rattle.hb_stepper.specs.declared.seat.Seat.{Seat}

pub onward_on : {N : Type 0} (goes : N → N → Type 0) (a b c : N) → Onward goes a b → Onward goes b c → Onward goes a c
onward_on goes a b c g here = g
onward_on goes a b c g (onward mid to h last) = onward mid to (onward_on goes a b mid g h) last

pub made_on : (a b c : Running) → Made a b → Made b c → Made a c
made_on a b c g at_start = g
made_on a b c g (made mid to place shows h last) = made mid to place shows (made_on a b mid g h) last

pub made_one : (a b : Running) (place : ℕ) (shows : Progress) → OneStep a b place shows → Made a b
made_one a b place shows h = made a b place shows at_start h

pub made_ran : (place : ℕ) (a : Running) (n : ℕ) (b : Running) → Ran place a n b → Made a b
made_ran place a n b not_yet = at_start
made_ran place a n b (ran k mid to shows h on last) = made mid to place shows (made_ran place a k mid h) last

pub made_asked : (a : Running) (places : List ℕ) (b : Running) → Asked a places b → Made a b
made_asked a places b nobody = at_start
made_asked a places b (another front mid to place shows h last before after) = made mid to place shows (made_asked a front mid h) last

pub made_ready : (a b : Running) (place : ℕ) → IsReady a place b → Made a b
made_ready a b place h = made h.mid b place h.shows (made_asked a h.front h.mid h.waiting) h.ready

pub made_round : (a b : Running) → Round a b → Made a b
made_round a b h = made_on a h.mid b (made_ready a h.mid h.place h.ready) (made_ran h.place h.mid h.count b h.ran)

pub made_rounds : (a b : Running) → Rounds a b → Made a b
made_rounds a b no_round = at_start
made_rounds a b (round mid to h last) = made_on a mid to (made_rounds a mid h) (made_round mid to last)

-- nothing was done
pub made_same : (a b c : Running) → Made a b → c ≡ b → Made a c
made_same a b c h e = let P : Running → Type 0 = λ r. Made a r in subst P (sym e) h

-- ---- a session that can go on has something in progress

both_first : (a b : Bool) → (a && b) ≡ true → a ≡ true
both_first true b h = refl
both_first false b h = h

is_going_busy : (o : Option Seat) → is_seat going o ≡ true → is_seat busy o ≡ true
is_going_busy None h = h
is_going_busy (Some s) h = both_first (busy s) _ h

pub going_busy : (seats : List Seat) (place : ℕ) → seat_is going seats place ≡ true → seat_is busy seats place ≡ true
going_busy seats place h = is_going_busy (slice_get seats place) h

idle_first : (a b : Bool) → a ≡ false → (a && b) ≡ false
idle_first true b h = absurd (false≢true (sym h))
idle_first false b h = refl

is_idle : (o : Option Seat) → is_seat busy o ≡ false → is_seat going o ≡ false
is_idle None h = refl
is_idle (Some s) h = idle_first (busy s) _ h

pub idle_going : (seats : List Seat) (place : ℕ) → seat_is busy seats place ≡ false → seat_is going seats place ≡ false
idle_going seats place h = is_idle (slice_get seats place) h

-- what holds in any case holds after a failure
pub on_err : {T E : Type 0} (r : Result T E) (P : Type 0) → P → OnErr r P
on_err (Ok x) P p = tt
on_err (Err e) P p = p
