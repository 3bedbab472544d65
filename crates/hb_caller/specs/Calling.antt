-- Where a caller stands: a session, and the line of pdrbal that it runs.
use Rattle.std.specs.Prelude.{◌≡◌, ◌≤◌, ℕ, Bool, true, List, Option, Some, None, ⊤}
use Rattle.hb_model.specs.declared.reply.Reply.{Reply}
use Rattle.hb_model.specs.declared.statement.Statement.{Statement}
use Rattle.hb_wait.specs.Courses.{Course}
use Rattle.hb_session.specs.Sitting.{Sitting, is_busy, in_transaction as session_has, is_ending as session_ends, is_waiting as session_waits, stands as session_stands}
use Rattle.hb_session.specs.declared.stage.Stage.TheVariants as stage
use Rattle.hb_mover.specs.Moving.{Moving, begun_by, index_of, is_going, in_transaction as line_has, is_ending as line_ends, is_waiting as line_waits, stands as line_stands}

pub record Calling : Type 0 where
  pub session : Sitting
  pub mover : Option Moving

-- of the line where there is one, else of the session
abbrev pub by_asked : {A : Type 0} → (Moving → A) → A → Option Moving → A
by_asked of_line own None = own
by_asked of_line own (Some m) = of_line m

-- ---- words

-- a statement or a line is in progress
abbrev pub busy : Calling → Bool
busy c = by_asked (λ m. true) (is_busy c.session.stage) c.mover

abbrev pub waits : Calling → Bool
waits c = by_asked line_waits (session_waits c.session.stage) c.mover

-- a transaction was begun and hasn't ended
abbrev pub in_transaction : Calling → Bool
in_transaction c = by_asked line_has (session_has c.session.stage) c.mover

-- the transaction ends; a line's is rolled back, and the line ends with it
abbrev pub ending : Calling → Bool
ending c = by_asked line_ends (session_ends c.session.stage) c.mover

-- the transactions begun so far in the session's name
abbrev pub begun : Calling → ℕ
begun c = by_asked begun_by c.session.begun c.mover

-- what is still to be asked and said where these statements follow; a line's end is the end of what it says
abbrev pub stands : Calling → List Statement → Course (List Reply)
stands c sts = by_asked line_stands (session_stands c.session sts) c.mover

-- ---- what a caller keeps

-- a line runs while its session has no transaction, and counts on from the session's count
pub record RunsBeside (s : Sitting) (m : Moving) : Type 0 where
  pub idle : s.stage ≡ stage.Idle
  pub index : index_of m ≡ s.index
  pub going : is_going m ≡ true
  pub more : s.begun ≤ begun_by m

abbrev pub IsBeside : Sitting → Option Moving → Type 0
IsBeside s None = ⊤
IsBeside s (Some m) = RunsBeside s m

-- whose session it is, and what it runs
pub record IsSeated (index back_ends : ℕ) (s : Sitting) (m : Option Moving) : Type 0 where
  pub index_is : s.index ≡ index
  pub count_is : s.back_ends ≡ back_ends
  pub beside : IsBeside s m
