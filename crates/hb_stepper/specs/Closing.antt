-- The end of a script: what can go on runs out, and then what is open is rolled back.
use Rattle.std.specs.Prelude.{◌≡◌, ◌⊎◌, ℕ, ◌+◌, true, false, [], ◌∷◌, ◌++◌, length, set, Some, slice_get}
use Rattle.hb_model.specs.declared.reply.Reply.TheVariants as reply
use Rattle.hb_caller.specs.Steps.{GivesUp as CallerGivesUp, Abandons, Closes}
use Rattle.hb_stepper.specs.declared.seat.Seat.{Seat}
use Rattle.hb_stepper.specs.Finishing.{RanOut}
use Rattle.hb_stepper.specs.Running.{Running, seat_is, going, open_now, waits}
use Rattle.hb_stepper.specs.Steps.{Resumed, line_of}
use Rattle.hb_stepper.specs.Waiters.{waiters_after}

-- places in their order, of each of which something is so
pub data InTurn (does : Running → ℕ → Running → Type 0) (from : Running) : ℕ → Running → Type 0 where
  before_all : InTurn does from 0 from
  one_more : (place : ℕ) (mid to : Running) → InTurn does from place mid → does mid place to → InTurn does from (place + 1) to

-- a session that can go on runs to the end of its statement or line, or to a wait, and then those that wait and aren't held are asked
pub data RunsOn (old : Running) (place : ℕ) : Running → Type 0 where
  runs_on : (out new : Running) → seat_is going old.seats place ≡ true → RanOut old place out → Resumed out new → RunsOn old place new
  rests : seat_is going old.seats place ≡ false → RunsOn old place old

-- a session that waits, or is between two statements, is given up: what follows is a rolling back
pub record SeatGivesUp (old new : Seat) : Type 0 where
  pub gives_up : CallerGivesUp old.caller new.caller
  pub rolls_back : Abandons old.caller new.caller ⊎ Closes old.caller new.caller
  pub work : new.work ≡ old.work
  pub held : new.held ≡ old.held

-- the session at a place is given up, and waits no more
pub record GivesUp (old : Running) (place : ℕ) (new : Running) : Type 0 where
  pub was : Seat
  pub now : Seat
  pub there : slice_get old.seats place ≡ Some was
  pub gives_up : SeatGivesUp was now
  pub becomes : new ≡ record old { seats = set old.seats place now; waiters = waiters_after old.waiters place (waits was) false }

-- it is given up and rolled back; the one line answers what waited, if anything did
pub record RollsBack (old : Running) (place : ℕ) (new : Running) : Type 0 where
  pub mid : Running
  pub given_up : GivesUp old place mid
  pub ran : RanOut mid place new
  pub over : seat_is open_now new.seats place ≡ false
  pub line : new.lines ≡ old.lines ++ line_of place given_up.was.work reply.RolledBackEnd ∷ []

-- a session that has a transaction, or something in progress, is rolled back
pub data IsClosed (old : Running) (place : ℕ) : Running → Type 0 where
  rolled_back : (new : Running) → seat_is open_now old.seats place ≡ true → RollsBack old place new → IsClosed old place new
  has_none : seat_is open_now old.seats place ≡ false → IsClosed old place old

-- In the order of first appearance each session runs on; once none can go on, each is closed, and nobody is asked between.
pub record Closed (old new : Running) : Type 0 where
  pub mid : Running
  pub ran : InTurn RunsOn old (length old.seats) mid
  pub stopped : (place : ℕ) → seat_is going mid.seats place ≡ false
  pub closed : InTurn IsClosed mid (length mid.seats) new
  pub over : (place : ℕ) → seat_is open_now new.seats place ≡ false
