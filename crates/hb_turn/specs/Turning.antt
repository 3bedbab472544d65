-- Where a turn stands: the talk of its transaction that is still to be said.
use Rattle.std.specs.Prelude.{◌≡◌, ℕ, ℤ, ◌+◌, ◌-◌, ◌^◌, min, Bool, true, false, Result, Ok, Err, Some, None, List, [], ◌∷◌, map, All, FitsSigned, ⊤}
use Rattle.std.specs.Int.{w32}
use Rattle.hb_types.specs.declared.answer.Answer.{Answer}
use Rattle.hb_types.specs.declared.answer.Answer.TheVariants as answer
use Rattle.hb_types.specs.declared.names.Number.{Number}
use Rattle.hb_types.specs.declared.names.Owner.{Owner}
use Rattle.hb_types.specs.declared.names.Tx.{Tx}
use Rattle.hb_types.specs.declared.request.Request.TheVariants as request
use Rattle.hb_types.specs.Numbers.{IsNumber}
use Rattle.hb_model.specs.declared.reply.Reply.{Reply}
use Rattle.hb_model.specs.declared.reply.Reply.TheVariants as reply
use Rattle.hb_model.specs.Shapes.{Hint as Moving}
use Rattle.hb_talk.specs.Moves.{Mover, Checked, Turned, again, onward, over, after_commit, batch_ends, batch_turn, check_ends, check_reply, check_with, finish_ends, finish_turn, opened, rolled, turn_on}
use Rattle.hb_talk.specs.Talk.{Talk, says, asks, going_on, Use}
use Rattle.hb_access.specs.declared.usage.Usage.{Usage}
use Rattle.hb_batch.specs.Batches.{hint_of, IsSitedHint}
use Rattle.hb_batch.specs.declared.hint.Hint.{Hint}
use Rattle.hb_commit.specs.Driving.{AreBranches, Driving, IsSound, Replies, is_waiting as driver_waits, now_talks as driver_talks}
use Rattle.hb_moveplan.specs.declared.plan.Plan.{Plan}
use Rattle.hb_moveplan.specs.MovePlans.{Came, hints, moved, finished, is_waiting as plan_waits, now_hears, now_talks, usage_of}
use Rattle.hb_round.specs.Onward.{Ends}
use Rattle.hb_wait.specs.Courses.{Course, free, pending_in}
use Rattle.hb_wait.specs.Waiting.{IsPending, is_waiting as waits_for_lock}
use Rattle.hb_turn.specs.declared.line.Line.{Line}
use Rattle.hb_turn.specs.declared.stage.After.{After}
use Rattle.hb_turn.specs.declared.stage.After.TheVariants as after
use Rattle.hb_turn.specs.declared.stage.Stage.{Stage}
use Rattle.hb_turn.specs.declared.stage.Stage.TheVariants as stage
use Rattle.hb_turn.specs.declared.stage.Task.{Task}
use Rattle.hb_turn.specs.declared.stage.Task.TheVariants as task
use Rattle.hb_turn.specs.declared.turn.Turned.{Turned as Said}
use Rattle.hb_turn.specs.declared.turn.Turned.TheVariants as said

-- which line the turn is of, the transactions that its session has begun, and how far it is
pub record Turning : Type 0 where
  pub line : Line
  pub begun : ℕ
  pub stage : Stage

-- the line, as talks know it
abbrev pub mover_of : Line → Mover
mover_of l = record { session = l.session; back_ends = l.back_ends; table = l.table; rows = l.rows; turns = l.turns }

-- one transaction more
abbrev pub counted : ℕ → ℕ
counted begun = min (begun + 1) (2 ^ 64 - 1)

-- whose the transaction is that was begun last, and the next one
abbrev pub owner : Turning → Owner
owner t = record { session = t.line.session; nth = t.begun }

abbrev pub next_owner : Turning → Owner
next_owner t = record { session = t.line.session; nth = counted t.begun }

-- ---- how a turn ends

-- what a check found, and the number of its commit; the same group is next, with the lines that are shown, or the next group; or the line is over
pub data Outcome : Type 0 where
  found : List Moving → Number → Outcome
  stays : List Reply → Outcome
  goes_on : Outcome
  ends : Reply → Outcome

abbrev pub of_check : Checked → Outcome
of_check (Ok c) = found c.0 c.1
of_check (Err r) = ends r

abbrev pub of_turned : Turned → Outcome
of_turned (again rs) = stays rs
of_turned onward = goes_on
of_turned (over r) = ends r

-- the outcome that was told
abbrev pub outcome_of : Said → Outcome
outcome_of (said.Found hs number) = found (map hint_of hs) number
outcome_of (said.Again None) = stays []
outcome_of (said.Again (Some r)) = stays (r ∷ [])
outcome_of said.Onward = goes_on
outcome_of (said.Over r) = ends r

-- ---- talks

-- a talk, told by its outcome
abbrev pub told : {A : Type 0} → (A → Outcome) → Talk A → Talk Outcome
told f t = going_on (λ x. says (f x)) t

abbrev pub answered : {R : Type 0} → Talk R → Answer → Talk R
answered (says r) a = says r
answered (asks node q k) a = k a

-- a check, a batch or a finish, as a transaction of this owner
abbrev pub opening : Line → Owner → Task → Talk Outcome
opening l o task.Check = told of_check (opened o (check_with o l.table))
opening l o (task.Batch h keys) = told of_turned (opened o (batch_turn o (hint_of h) keys))
opening l o (task.Finish h) = told of_turned (opened o (finish_turn o (hint_of h)))

-- a batch where there are keys, else a finish
abbrev pub task_on : Hint → List ℤ → Task
task_on h [] = task.Finish h
task_on h (k ∷ ks) = task.Batch h (k ∷ ks)

-- the ends of a batch and of a finish know of their hint the group alone
abbrev pub in_group : ℕ → Moving
in_group group = record { table = 0; group = group; old = 0; new = 0 }

-- the end of the transaction, once its plan came to this
abbrev pub ending : Owner → ℕ → Result Came Reply → Use → Talk Outcome
ending o group (Ok (hints hs)) u = told of_check (check_ends o (Ok hs) u)
ending o group (Ok (moved m)) u = told of_turned (batch_ends o (in_group group) (Ok m) u)
ending o group (Ok (finished f)) u = told of_turned (finish_ends o (in_group group) (Ok f) u)
ending o group (Err r) u = told of_turned (rolled u (over r))

-- what is left of the plan, and the end behind it
abbrev pub planned : Owner → ℕ → Talk (Ends Came) → Talk Outcome
planned o group p = going_on (λ e. ending o group e.0 e.1) p

-- what follows the reply of an end
abbrev pub follows : After → Reply → Outcome
follows (after.Checked hs) r = of_check (check_reply (map hint_of hs) r)
follows (after.Moved rows group) r = of_turned (after_commit again r)
follows (after.Set group) r = of_turned (after_commit (λ rs. onward) r)
follows after.Again r = stays []
follows after.Onward r = goes_on
follows (after.Over e) r = ends e

abbrev pub shown_of : After → Number → Reply
shown_of (after.Checked hs) number = reply.Complete number
shown_of (after.Moved rows group) number = reply.Moved rows group number
shown_of (after.Set group) number = reply.Moved 0 group number
shown_of _ number = reply.Committed number

abbrev pub replies : Owner → After → Replies
replies o f = record { owner = o; shown = shown_of f; back = reply.RolledBack }

abbrev pub following : After → Talk Reply → Talk Outcome
following f t = going_on (λ r. says (follows f r)) t

abbrev pub stands_at : Turning → Stage → Course Outcome
stands_at t (stage.Keys h) = free (told of_turned (turn_on (mover_of t.line) (counted t.begun) (hint_of h)))
stands_at t (stage.Begins k) = free (opening t.line (next_owner t) k)
stands_at t (stage.Enters tx k) = free (answered (opening t.line (owner t) k) (answer.Begun tx))
stands_at t (stage.Asks a) = pending_in a.pending (λ x. planned (owner t) a.group (now_hears a.plan x))
stands_at t (stage.Ends e) = free (following e.after (driver_talks (replies (owner t) e.after) e.driver e.usage.locks e.usage.bytes))
stands_at t stage.Over = free (says goes_on)

-- what is still to be asked and said
abbrev pub stands : Turning → Course Outcome
stands t = stands_at t t.stage

-- ---- words

abbrev pub is_busy : Stage → Bool
is_busy stage.Over = false
is_busy _ = true

abbrev pub is_waiting : Stage → Bool
is_waiting (stage.Asks a) = waits_for_lock a.pending
is_waiting _ = false

-- a transaction was begun and hasn't ended
abbrev pub in_transaction : Stage → Bool
in_transaction (stage.Enters tx k) = true
in_transaction (stage.Asks a) = true
in_transaction (stage.Ends e) = true
in_transaction _ = false

abbrev pub is_last_after : After → Bool
is_last_after (after.Over r) = true
is_last_after _ = false

-- the transaction is rolled back, and the line ends with it
abbrev pub is_last : Stage → Bool
is_last (stage.Ends e) = is_last_after e.after
is_last _ = false

-- ---- what a turn keeps

abbrev pub nothing_used : Tx → Usage
nothing_used tx = record { tx = tx; used = record { 0 = 0 }; locks = 0; bytes = 0 }

-- a plan whose transaction has used no node: it enlists at ds first
pub record Starts (plan : Plan) : Type 0 where
  pub none : (usage_of plan).used.0 ≡ 0
  pub rest : Answer → Talk (Ends Came)
  pub first : now_talks plan ≡ asks 1 (request.Enlist (usage_of plan).tx) rest

abbrev pub IsUsed : Usage → Type 0
IsUsed u = IsNumber u.tx.0 × AreBranches u.used.0

pub record IsAsking (plan : Plan) : Type 0 where
  pub used : IsUsed (usage_of plan)
  pub waiting : plan_waits plan ≡ true

pub record IsEnding (u : Usage) (d : Driving) : Type 0 where
  pub tx : d.tx ≡ u.tx
  pub sound : IsSound d
  pub asking : driver_waits d.stage ≡ false

abbrev pub IsTask : Task → Type 0
IsTask task.Check = ⊤
IsTask (task.Batch h keys) = IsSitedHint h × All (FitsSigned w32) keys
IsTask (task.Finish h) = IsSitedHint h

-- the groups that a check found lie where areas are
abbrev pub AreSitedAfter : After → Type 0
AreSitedAfter (after.Checked hs) = All IsSitedHint hs
AreSitedAfter _ = ⊤

abbrev pub IsWithin : Stage → Type 0
IsWithin (stage.Keys h) = IsSitedHint h
IsWithin (stage.Begins k) = IsTask k
IsWithin (stage.Enters tx k) = IsNumber tx.0 × IsTask k
IsWithin (stage.Asks a) = IsAsking a.plan × IsPending a.pending
IsWithin (stage.Ends e) = IsEnding e.usage e.driver × AreSitedAfter e.after
IsWithin stage.Over = ⊤
