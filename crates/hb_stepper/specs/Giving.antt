-- What giving a statement or a line of pdrbal to a session makes of a run.
use Rattle.std.specs.Prelude.{◌≡◌, ◌⊎◌, ℕ, Bool, true, false, not, ◌&&◌, List, [], ◌∷◌, ◌++◌, set, if◌then◌else◌, Option, Some, None, Result, Ok, Err, slice_get}
use Rattle.hb_model.specs.declared.line.Line.{Line}
use Rattle.hb_model.specs.declared.line.Work.{Work}
use Rattle.hb_model.specs.declared.line.Work.TheVariants as work
use Rattle.hb_model.specs.declared.reply.Reply.{Reply}
use Rattle.hb_model.specs.declared.reply.Reply.TheVariants as reply
use Rattle.hb_model.specs.declared.statement.Statement.{Statement}
use Rattle.hb_model.specs.declared.statement.Statement.TheVariants as statement
use Rattle.hb_caller.specs.Calling.{Calling, in_transaction}
use Rattle.hb_caller.specs.Steps.{Gives, GivesLine}
use Rattle.hb_stepper.specs.declared.fault.StepFault.{StepFault}
use Rattle.hb_stepper.specs.declared.fault.StepFault.TheVariants as fault
use Rattle.hb_stepper.specs.declared.seat.Seat.{Seat}
use Rattle.hb_stepper.specs.Names.{Named}
use Rattle.hb_stepper.specs.Running.{Running, busy}
use Rattle.hb_stepper.specs.Steps.{line_of}

-- COMMIT or ROLLBACK
abbrev pub is_end : Statement → Bool
is_end statement.Commit = true
is_end statement.Rollback = true
is_end _ = false

-- of a session with nothing in progress: NO TRANSACTION where there is none to end, IN TRANSACTION of a line in an open one
abbrev pub work_refusal : Work → Bool → Option StepFault
work_refusal (work.Sql st) inside = if is_end st && not inside then Some fault.NoTransaction else None
work_refusal (work.Rebalance table rows turns) inside = if inside then Some fault.InTransaction else None

-- the first refusal: FULL where there is no session, BUSY where a statement or a line is in progress, then that of its transaction
abbrev pub seat_refusal : Seat → Work → Option StepFault
seat_refusal seat w = if busy seat then Some fault.Busy else work_refusal w (in_transaction seat.caller)

abbrev pub refusal_of : Option Seat → Work → Option StepFault
refusal_of None w = Some fault.Full
refusal_of (Some seat) w = seat_refusal seat w

abbrev pub refusal : List Seat → ℕ → Work → Option StepFault
refusal seats place w = refusal_of (slice_get seats place) w

abbrev pub reply_of : StepFault → Reply
reply_of fault.Full = reply.Full
reply_of fault.Busy = reply.Busy
reply_of fault.InTransaction = reply.InTransaction
reply_of fault.NoTransaction = reply.NoTransaction
reply_of fault.NoMemory = reply.NoMemory

-- GIVEN where it is held
abbrev pub given_line : ℕ → Bool → List Line
given_line place true = line_of place None reply.Given ∷ []
given_line place false = []

-- the caller has the statement as the next of its session, or the line of pdrbal as a new one
abbrev pub TakesWork : Calling → Calling → Work → Type 0
TakesWork old new (work.Sql st) = Gives old new st
TakesWork old new (work.Rebalance table rows turns) = GivesLine old new table rows turns

-- the session has what was given, and all others are as before
pub record Starts (old : Running) (place : ℕ) (w : Work) (held : Bool) (new : Running) : Type 0 where
  pub was : Seat
  pub now : Seat
  pub there : slice_get old.seats place ≡ Some was
  pub given : TakesWork was.caller now.caller w
  pub work : now.work ≡ Some w
  pub held_now : now.held ≡ held
  pub becomes : new ≡ record old { seats = set old.seats place now; lines = old.lines ++ given_line place held }

-- a refusal's line answers what was given
abbrev pub Refuses : Running → ℕ → Work → StepFault → Running → Type 0
Refuses old place w f new = new ≡ record old { lines = old.lines ++ line_of place (Some w) (reply_of f) ∷ [] }

-- without memory nothing was given
abbrev pub GivenAt : Running → ℕ → Work → Bool → Result (Unit {0}) StepFault → Running → Type 0
GivenAt mid place w held (Ok x) new = (refusal mid.seats place w ≡ None) × Starts mid place w held new
GivenAt mid place w held (Err fault.NoMemory) new = new ≡ mid
GivenAt mid place w held (Err f) new = (refusal mid.seats place w ≡ Some f) × Refuses mid place w f new

abbrev pub NamedInPart : Running → List ℕ → Running → Type 0
NamedInPart old name new = (new ≡ old) ⊎ ((place : ℕ) × Named old name place new)

-- the name got its place, and what is given was taken there or refused
abbrev pub Given : Running → List ℕ → Work → Bool → Result (Unit {0}) StepFault → Running → Type 0
Given old name w held (Err fault.NoMemory) new = NamedInPart old name new
Given old name w held result new = (place : ℕ) × (mid : Running) × Named old name place mid × GivenAt mid place w held result new
