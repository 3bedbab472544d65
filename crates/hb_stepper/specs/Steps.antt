-- What steps make of a run: whose they are, how many, and the lines that they add.
use Rattle.std.specs.Prelude.{◌≡◌, ◌⊎◌, ℕ, ◌+◌, true, false, List, [], ◌∷◌, ◌++◌, set, Option, Some, None, slice_get}
use Rattle.hb_model.specs.declared.line.Line.{Line}
use Rattle.hb_model.specs.declared.line.Work.{Work}
use Rattle.hb_model.specs.declared.reply.Reply.{Reply}
use Rattle.hb_model.specs.declared.reply.Reply.TheVariants as reply
use Rattle.hb_node.specs.Lists.{Lists}
use Rattle.hb_caller.specs.declared.caller.Progress.{Progress}
use Rattle.hb_caller.specs.declared.caller.Progress.TheVariants as progress
use Rattle.hb_caller.specs.Calling.{ending as is_ending}
use Rattle.hb_caller.specs.Steps.{Stepped, EndsBy, EndsOn}
use Rattle.hb_stepper.specs.declared.seat.Seat.{Seat}
use Rattle.hb_stepper.specs.Waiters.{waiters_after}
use Rattle.hb_stepper.specs.Running.{Running, seat_is, asked, busy, going, waits, askable}

-- ---- one step

-- a line of the session at a place, with what it answers
abbrev pub line_of : ℕ → Option Work → Reply → Line
line_of place work r = record { session = Some place; work = work; reply = r }

-- a wait is shown as it begins, and what a line of pdrbal tells before its end; both answer nothing
abbrev pub lines_of : ℕ → Option Work → Progress → List Line
lines_of place work progress.More = []
lines_of place work (progress.Waits edges) = line_of place None (reply.Waits edges) ∷ []
lines_of place work (progress.Told r) = line_of place None r ∷ []
lines_of place work (progress.Shown r) = line_of place work r ∷ []
lines_of place work (progress.Ended r) = line_of place work r ∷ []

abbrev pub unanswered : Option Work → Progress → Option Work
unanswered work (progress.Shown r) = None
unanswered work (progress.Ended r) = None
unanswered work _ = work

-- a caller made one step: what its contract says, and what is shown answers what was given to it
pub record SeatSteps (old new : Seat) (before after : Lists) (shows : Progress) : Type 0 where
  pub stepped : Stepped old.caller new.caller before after shows
  pub ending : is_ending old.caller ≡ true → EndsOn shows new.caller
  pub asks : is_ending old.caller ≡ true → EndsBy old.caller new.caller shows
  pub work : new.work ≡ unanswered old.work shows
  pub held : new.held ≡ old.held

-- the session at a place made one step, and all others are as before
pub record OneStep (old new : Running) (place : ℕ) (shows : Progress) : Type 0 where
  pub was : Seat
  pub now : Seat
  pub there : slice_get old.seats place ≡ Some was
  pub in_progress : busy was ≡ true
  pub seats : new.seats ≡ set old.seats place now
  pub stepped : SeatSteps was now old.lists new.lists shows
  pub waiters : new.waiters ≡ waiters_after old.waiters place (waits was) (waits now)
  pub lines : new.lines ≡ old.lines ++ lines_of place was.work shows
  pub names : new.names ≡ old.names

-- ---- many

-- some steps, whosever
pub data Made (from : Running) : Running → Type 0 where
  at_start : Made from from
  made : (mid to : Running) (place : ℕ) (shows : Progress) → Made from mid → OneStep mid to place shows → Made from to

-- n steps of one session, each behind the first made because it could go on
pub data Ran (place : ℕ) (from : Running) : ℕ → Running → Type 0 where
  not_yet : Ran place from 0 from
  ran : (n : ℕ) (mid to : Running) (shows : Progress) → Ran place from n mid → (n ≡ 0) ⊎ (seat_is going mid.seats place ≡ true) → OneStep mid to place shows → Ran place from (n + 1) to

-- these waiting sessions were asked one behind another, and wait on
pub data Asked (from : Running) : List ℕ → Running → Type 0 where
  nobody : Asked from [] from
  another : (front : List ℕ) (mid to : Running) (place : ℕ) (shows : Progress) → Asked from front mid → OneStep mid to place shows
      → seat_is asked mid.seats place ≡ true → seat_is asked to.seats place ≡ true → Asked from (front ++ place ∷ []) to

-- those that are asked were asked in their order up to this one, which was ready
pub record IsReady (old : Running) (place : ℕ) (new : Running) : Type 0 where
  pub front : List ℕ
  pub back : List ℕ
  pub order : askable old ≡ front ++ place ∷ back
  pub mid : Running
  pub waiting : Asked old front mid
  pub shows : Progress
  pub ready : OneStep mid new place shows
  pub over : seat_is asked new.seats place ≡ false

-- the first that was ready ran on to its end or its next wait
pub record Round (old new : Running) : Type 0 where
  pub place : ℕ
  pub mid : Running
  pub ready : IsReady old place mid
  pub count : ℕ
  pub ran : Ran place mid count new
  pub stopped : seat_is going new.seats place ≡ false

pub data Rounds (from : Running) : Running → Type 0 where
  no_round : Rounds from from
  round : (mid to : Running) → Rounds from mid → Round mid to → Rounds from to

-- round after round, until each that is asked was asked last, and waits on
pub record Resumed (old new : Running) : Type 0 where
  pub mid : Running
  pub rounds : Rounds old mid
  pub waiting : Asked mid (askable mid) new
