-- A session that was given up, run to its end: its one line.
use Rattle.std.proofs.Common.{◌≡◌, ◌⊎◌, ℕ, Bool, true, false, not, ◌&&◌, ◌||◌, List, [], ◌∷◌, ◌++◌, ap, ◌∙◌, sym, subst, inl, inr}
use Rattle.std.specs.Prelude.{Option, Some, slice_get}
use Rattle.std.proofs.lemmas.Bool.{false≢true}
use Rattle.std.proofs.lemmas.List.{append-nil}
use Rattle.std.proofs.lemmas.Option.{same_Some, slice_get_within}
use Rattle.hb_model.specs.declared.line.Line.{Line}
use Rattle.hb_model.specs.declared.line.Work.{Work}
use Rattle.hb_model.specs.declared.reply.Reply.TheVariants as reply
use Rattle.hb_caller.specs.declared.caller.Progress.{Progress}
use Rattle.hb_caller.specs.Calling.{Calling, in_transaction, busy as is_busy, waits as is_waiting}
use Rattle.hb_stepper.specs.declared.seat.Seat.{Seat}
use Rattle.hb_stepper.specs.Closing.{GivesUp, SeatGivesUp, RollsBack}
use Rattle.hb_stepper.specs.Finishing.{RanOut}
use Rattle.hb_stepper.specs.Running.{Running, seat_is, is_seat, busy, going, open_now}
use Rattle.hb_stepper.specs.Steps.{OneStep, Ran, not_yet, ran, line_of, lines_of, unanswered}
use Rattle.hb_stepper.proofs.Rolling.{Rolling, IsOver, Onward, rolls_on, given_over}
use Rattle.hb_stepper.proofs.Seats.{set_there}

-- no line yet
record RollsOn (from : Running) (place : ℕ) (work : Option Work) (now : Running) : Type 0 where
  pub seat : Seat
  pub there : slice_get now.seats place ≡ Some seat
  pub rolls : Rolling reply.RolledBackEnd seat.caller
  pub work_kept : seat.work ≡ work
  pub lines : now.lines ≡ from.lines

-- the line, and no transaction
pub record RolledOut (from : Running) (place : ℕ) (work : Option Work) (now : Running) : Type 0 where
  pub over : seat_is open_now now.seats place ≡ false
  pub line : now.lines ≡ from.lines ++ line_of place work reply.RolledBackEnd ∷ []

busy_open : (a b : Bool) → a ≡ true → (a || b) ≡ false → ⊥
busy_open true b h e = false≢true (sym e)
busy_open false b h e = false≢true h

-- a session that has ended makes no step
no_more : (from mid to : Running) (place : ℕ) (work : Option Work) (shows : Progress) → RolledOut from place work mid → OneStep mid to place shows → ⊥
no_more from mid to place work shows h step =
    let P : Option Seat → Type 0 = λ o. is_seat open_now o ≡ false in
    busy_open (busy step.was) (in_transaction step.was.caller) step.in_progress (subst P step.there h.over)

neither : (a b : Bool) → a ≡ false → b ≡ false → (a || b) ≡ false
neither a b first second = ap (λ (x : Bool). x || b) first ∙ second

over_shut : (c : Calling) → IsOver c → (is_busy c || in_transaction c) ≡ false
over_shut c h = neither (is_busy c) (in_transaction c) h.idle h.none

-- where the seat of one step stands
there_after : (a b : Running) (place : ℕ) (shows : Progress) (h : OneStep a b place shows) → slice_get b.seats place ≡ Some h.now
there_after a b place shows h = ap (λ (xs : List Seat). slice_get xs place) h.seats ∙ set_there a.seats place h.now (slice_get_within a.seats place h.was h.there)

-- what was shown by a step whose seat was so
stepped : (from mid to : Running) (place : ℕ) (work : Option Work) (shows : Progress) (h : OneStep mid to place shows) → h.was.work ≡ work → mid.lines ≡ from.lines
    → Onward reply.RolledBackEnd shows h.now.caller → RollsOn from place work to ⊎ RolledOut from place work to
stepped from mid to place work shows h same lines (inl on) = inl (record {
  seat = h.now;
  there = there_after mid to place shows h;
  rolls = on.1;
  work_kept = h.stepped.work ∙ ap (unanswered h.was.work) on.0 ∙ same;
  lines = h.lines ∙ ap (λ (s : Progress). mid.lines ++ lines_of place h.was.work s) on.0 ∙ append-nil mid.lines ∙ lines;
})
stepped from mid to place work shows h same lines (inr out) = inr (record {
  over = ap (λ (o : Option Seat). is_seat open_now o) (there_after mid to place shows h) ∙ over_shut h.now.caller out.1;
  line = h.lines ∙ ap (λ (s : Progress). mid.lines ++ lines_of place h.was.work s) out.0
      ∙ ap (λ (w : Option Work). mid.lines ++ line_of place w reply.RolledBackEnd ∷ []) same
      ∙ ap (λ (ls : List Line). ls ++ line_of place work reply.RolledBackEnd ∷ []) lines;
})

step_of : (from mid to : Running) (place : ℕ) (work : Option Work) (shows : Progress) → RollsOn from place work mid ⊎ RolledOut from place work mid → OneStep mid to place shows
    → RollsOn from place work to ⊎ RolledOut from place work to
step_of from mid to place work shows (inr out) h = absurd (no_more from mid to place work shows out h)
step_of from mid to place work shows (inl on) h =
    let same : on.seat ≡ h.was = same_Some on.seat h.was (sym on.there ∙ h.there) in
    let P : Seat → Type 0 = λ s. Rolling reply.RolledBackEnd s.caller in
    let rolling : Rolling reply.RolledBackEnd h.was.caller = subst P same on.rolls in
    let s = h.stepped in
    stepped from mid to place work shows h (sym (ap (λ (x : Seat). x.work) same) ∙ on.work_kept) on.lines
    (rolls_on reply.RolledBackEnd h.was.caller h.now.caller shows rolling (s.asks rolling.ending_now) (s.ending rolling.ending_now) s.stepped.leaves)

steps_of : (from : Running) (place : ℕ) (work : Option Work) (start : Running) → RollsOn from place work start → (n : ℕ) (to : Running) → Ran place start n to
    → RollsOn from place work to ⊎ RolledOut from place work to
steps_of from place work start h n to not_yet = inl h
steps_of from place work start h n to (ran m mid end shows r on last) = step_of from mid end place work shows (steps_of from place work start h m mid r) last

goes : (a b : Bool) → a ≡ true → b ≡ false → (a && not b) ≡ true
goes a b first second = ap (λ (x : Bool). x && not b) first ∙ ap not second

rolling_goes : (c : Calling) → Rolling reply.RolledBackEnd c → (is_busy c && not (is_waiting c)) ≡ true
rolling_goes c h = goes (is_busy c) (is_waiting c) h.busy_now h.waits_not

-- one that can't go on has ended
ran_out : (from now : Running) (place : ℕ) (work : Option Work) → RollsOn from place work now ⊎ RolledOut from place work now → seat_is going now.seats place ≡ false → RolledOut from place work now
ran_out from now place work (inr out) h = out
ran_out from now place work (inl on) h =
    let P : Option Seat → Type 0 = λ o. is_seat going o ≡ false in
    absurd (false≢true (sym (subst P on.there h) ∙ rolling_goes on.seat.caller on.rolls))

seat_rolls : (old new : Seat) → SeatGivesUp old new → Rolling reply.RolledBackEnd new.caller
seat_rolls old new h =
    let left = given_over old.caller new.caller h.rolls_back in
    record { ending_now = h.gives_up.ending_now; busy_now = h.gives_up.busy_now; waits_not = h.gives_up.waits_not; talk = left.talk; backs = left.backs; course = left.course }

starts : (old mid : Running) (place : ℕ) (h : GivesUp old place mid) → RollsOn old place h.was.work mid
starts old mid place h = record {
  seat = h.now;
  there = ap (λ (r : Running). slice_get r.seats place) h.becomes ∙ set_there old.seats place h.now (slice_get_within old.seats place h.was h.there);
  rolls = seat_rolls h.was h.now h.gives_up;
  work_kept = h.gives_up.work;
  lines = ap (λ (r : Running). r.lines) h.becomes;
}

pub rolled_out : (old mid new : Running) (place : ℕ) (h : GivesUp old place mid) → RanOut mid place new → RolledOut old place h.was.work new
rolled_out old mid new place h r = ran_out old new place h.was.work (steps_of old place h.was.work mid (starts old mid place h) r.count new r.ran) r.stopped

pub rolls_back : (old mid new : Running) (place : ℕ) → GivesUp old place mid → RanOut mid place new → RollsBack old place new
rolls_back old mid new place h r =
    let out = rolled_out old mid new place h r in
    record { mid = mid; given_up = h; ran = r; over = out.over; line = out.line }
