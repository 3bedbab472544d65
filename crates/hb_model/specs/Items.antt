-- Items: a piece of a caller's work, with the calls that it made and the lines that it showed.
use Rattle.std.specs.Prelude.{ℕ, ◌+◌, List, [], ◌∷◌, ◌++◌}
use Rattle.hb_types.specs.declared.trail.Call.{Call}
use Rattle.hb_model.specs.declared.reply.Reply.{Reply}
use Rattle.hb_model.specs.declared.statement.Statement.{Statement}
use Rattle.hb_model.specs.Answers.{bytes_in, grants_in}

-- what a caller does: a statement, a turn or check of pdrbal on a table with at most so many keys, or what belongs to no work
pub data Doing : Type 0 where
  sql : Statement → Doing
  turn : List ℕ → ℕ → Doing
  tending : Doing

-- A piece of a caller's work: the place of the work in its script, what it does, the calls it made, and the replies it showed:
-- those that end a statement, and the MOVED, COMPLETE and SUSPENDED of pdrbal, but no GIVEN, WAITS or STEPPED.
pub record Item : Type 0 where
  pub place : ℕ
  pub doing : Doing
  pub calls : List Call
  pub lines : List Reply

-- a caller's calls are those of its items, in order
abbrev pub calls_of : List Item → List Call
calls_of [] = []
calls_of (i ∷ is) = i.calls ++ calls_of is

-- what of a transaction was spent before a statement: bytes of changes and granted locks
pub record Spent : Type 0 where
  pub bytes : ℕ
  pub locks : ℕ

abbrev pub nothing_spent : Spent
nothing_spent = record { bytes = 0; locks = 0 }

-- what is spent behind these calls
abbrev pub spending : Spent → List Call → Spent
spending spent calls = record { bytes = spent.bytes + bytes_in calls; locks = spent.locks + grants_in calls }
