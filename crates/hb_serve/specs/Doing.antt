-- What a line of a script does to the sessions of a run, and the line that it has of its own.
use Rattle.std.specs.Prelude.{◌≡◌, ◌≢◌, ℕ, ◌==◌, ◌<◌, ◌≤◌, Bool, true, false, not, if◌then◌else◌, List, None, Result, Ok, Err}
use Rattle.hb_model.specs.declared.line.Line.{Line}
use Rattle.hb_model.specs.declared.line.Work.{Work}
use Rattle.hb_model.specs.declared.reply.Reply.{Reply}
use Rattle.hb_model.specs.declared.reply.Reply.TheVariants as reply
use Rattle.hb_model.specs.declared.script.Item.{Item}
use Rattle.hb_model.specs.declared.script.Item.TheVariants as item
use Rattle.hb_lines.specs.declared.said.Said.{Said}
use Rattle.hb_lines.specs.declared.said.Said.TheVariants as said
use Rattle.hb_stepper.specs.declared.fault.StepFault.{StepFault}
use Rattle.hb_stepper.specs.declared.fault.StepFault.TheVariants as fault
use Rattle.hb_stepper.specs.Advancing.{Advanced}
use Rattle.hb_stepper.specs.Finishing.{Finished}
use Rattle.hb_stepper.specs.Giving.{Given}
use Rattle.hb_stepper.specs.Names.{Named}
use Rattle.hb_stepper.specs.Running.{Running, seat_is, busy}
use Rattle.hb_stepper.specs.Steps.{line_of}
use Rattle.hb_serve.specs.declared.own.Own.{Own}
use Rattle.hb_serve.specs.declared.own.Own.TheVariants as own

-- ---- giving

-- whether what is given was taken, where memory wasn't wanting
abbrev pub IsTaken : Bool → Result (Unit {0}) StepFault → Type 0
IsTaken taken (Ok x) = taken ≡ true
IsTaken taken (Err fault.NoMemory) = ⊥
IsTaken taken (Err f) = taken ≡ false

-- a statement or a line of pdrbal that goes on runs to its end or to a wait
abbrev pub GoesOn : Bool → List ℕ → Running → Running → Type 0
GoesOn true name mid new = Finished mid name new
GoesOn false name mid new = new ≡ mid

-- what is given was taken, and goes on where it isn't held; or it was refused by a line of the session
pub data Gave (old : Running) (name : List ℕ) (w : Work) (held : Bool) : Running → Type 0 where
  taken : (mid new : Running) → Given old name w held (Ok tt) mid → GoesOn (not held) name mid new → Gave old name w held new
  refused : (f : StepFault) (new : Running) → f ≢ fault.NoMemory → Given old name w held (Err f) new → Gave old name w held new

-- ---- STEP

-- the names that have a session
abbrev pub most_sessions : ℕ
most_sessions = 16

-- STEPPED, or NOTHING GIVEN where no step was made
abbrev pub made_reply : ℕ → Reply
made_reply count = if count == 0 then reply.NothingGiven else reply.Stepped count

-- FULL for a name behind the first 16; NOTHING GIVEN where nothing of the session is in progress; else how many steps were made
pub data Steps (old : Running) (name : List ℕ) (most : ℕ) : Own → Running → Type 0 where
  full : (place : ℕ) (new : Running) → Named old name place new → most_sessions ≤ place → Steps old name most (own.Line (line_of place None reply.Full)) new
  nothing_given : (new : Running) (none : Advanced old name most 0 new) → none.place < most_sessions → seat_is busy none.mid.seats none.place ≡ false
      → Steps old name most (own.Line (line_of none.place None reply.NothingGiven)) new
  stepped : (count : ℕ) (new : Running) (made : Advanced old name most count new) → made.place < most_sessions → seat_is busy made.mid.seats made.place ≡ true
      → Steps old name most (own.Line (line_of made.place None (reply.Stepped count))) new

-- ---- lines

-- blank lines and BARRIER do nothing, and neither do the lines of nodes, which aren't built; statements and lines of pdrbal are given
abbrev pub DoesItem : Item → Running → Own → Running → Type 0
DoesItem item.Blank old o new = (o ≡ own.Nothing) × (new ≡ old)
DoesItem item.Barrier old o new = (o ≡ own.Nothing) × (new ≡ old)
DoesItem (item.Give name w held) old o new = (o ≡ own.Nothing) × Gave old name w held new
DoesItem (item.Step name most) old o new = Steps old name most o new
DoesItem (item.Stop node) old o new = (o ≡ own.NotBuilt) × (new ≡ old)
DoesItem (item.Arm node area k) old o new = (o ≡ own.NotBuilt) × (new ≡ old)
DoesItem (item.Start node) old o new = (o ≡ own.NotBuilt) × (new ≡ old)
DoesItem (item.Sync node) old o new = (o ≡ own.NotBuilt) × (new ≡ old)

-- SYNTAX tells the line's number and the byte, of no session
abbrev pub syntax_line : ℕ → ℕ → Line
syntax_line number byte = record { session = None; work = None; reply = reply.Syntax number byte }

-- what the line of this number says is done: to the sessions, and as a line of its own
abbrev pub Does : ℕ → Said → Running → Own → Running → Type 0
Does number (said.Item i) old o new = DoesItem i old o new
Does number (said.Syntax byte) old o new = (o ≡ own.Line (syntax_line number byte)) × (new ≡ old)
