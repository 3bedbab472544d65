-- Where a session stands: the talk of its transaction that is still to be said, for whatever statements follow.
use Rattle.std.specs.Prelude.{◌≡◌, ℕ, ◌+◌, ◌-◌, ◌^◌, min, Bool, true, false, IsTrue, List, [], ◌∷◌, ⊤}
use Rattle.hb_types.specs.declared.answer.Answer.{Answer}
use Rattle.hb_types.specs.declared.answer.Answer.TheVariants as answer
use Rattle.hb_types.specs.declared.names.Owner.{Owner}
use Rattle.hb_types.specs.Numbers.{IsNumber}
use Rattle.hb_model.specs.declared.reply.Reply.{Reply}
use Rattle.hb_model.specs.declared.reply.Reply.TheVariants as reply
use Rattle.hb_model.specs.declared.statement.Statement.{Statement}
use Rattle.hb_model.specs.Plain.{is_plain}
use Rattle.hb_talk.specs.Sessions.{after, going, transaction, with_reply}
use Rattle.hb_talk.specs.Talk.{Talk, says, asks, going_on}
use Rattle.hb_access.specs.Accesses.{use_of}
use Rattle.hb_access.specs.declared.usage.Usage.{Usage}
use Rattle.hb_commit.specs.Driving.{Driving, Replies, AreBranches, IsSound, now_talks as driver_talks, is_waiting as driver_waits}
use Rattle.hb_types.specs.declared.request.Request.TheVariants as request
use Rattle.hb_plan.specs.Planned.{Planned, Said, is_planned, now_talks, now_hears, is_waiting as plan_waits}
use Rattle.hb_wait.specs.Courses.{Course, free, pending_in}
use Rattle.hb_wait.specs.Waiting.{IsPending, is_waiting as waits_for_lock}
use Rattle.hb_session.specs.declared.stage.Stage.{Stage}
use Rattle.hb_session.specs.declared.stage.Stage.TheVariants as stage

pub record Sitting : Type 0 where
  pub index : ℕ
  pub back_ends : ℕ
  pub begun : ℕ
  pub stage : Stage

-- one transaction more
abbrev pub counted : ℕ → ℕ
counted begun = min (begun + 1) (2 ^ 64 - 1)

-- whose the transaction is that was begun last, and the next one
abbrev pub owner : Sitting → Owner
owner s = record { session = s.index; nth = s.begun }

abbrev pub next_owner : Sitting → Owner
next_owner s = record { session = s.index; nth = counted s.begun }

-- ---- talks

-- what follows an answer, where a talk asks
abbrev pub answered : {R : Type 0} → Talk R → Answer → Talk R
answered (says r) a = says r
answered (asks node q k) a = k a

-- an end of the transaction, whose reply is the last
abbrev pub finishing : Talk Reply → Talk (List Reply)
finishing t = going_on (λ r. says (r ∷ [])) t

-- what is left of a statement's plan, and the statements behind it
abbrev pub planned : Sitting → List Statement → Talk Said → Talk (List Reply)
planned s sts t = going_on (λ p. after (going s.back_ends (owner s) sts) p.0 p.1) t

abbrev pub opening : Sitting → List Statement → Talk (List Reply)
opening s [] = says []
opening s (st ∷ sts) = transaction s.back_ends (next_owner s) (st ∷ sts)

-- the replies of the end of a transaction
abbrev pub replies : Sitting → Reply → Replies
replies s back = record { owner = owner s; shown = reply.Committed; back = back }

abbrev pub stands_at : Sitting → List Statement → Stage → Course (List Reply)
stands_at s sts stage.Idle = free (opening s sts)
stands_at s sts (stage.Open u) = free (going s.back_ends (owner s) sts (use_of u))
stands_at s sts (stage.Refused u r) = free (with_reply r.reply (going s.back_ends (owner s) sts (use_of u)))
stands_at s sts (stage.Begins g) = free (transaction s.back_ends (next_owner s) (g.statement ∷ sts))
stands_at s sts (stage.Enters tx g) = free (answered (transaction s.back_ends (owner s) (g.statement ∷ sts)) (answer.Begun tx))
stands_at s sts (stage.Asks a) = pending_in a.pending (λ x. planned s sts (now_hears a.plan x))
stands_at s sts (stage.Ends e) = free (finishing (driver_talks (replies s e.back.reply) e.driver e.usage.locks e.usage.bytes))

-- what a session has still to ask and to say where these statements follow
abbrev pub stands : Sitting → List Statement → Course (List Reply)
stands s sts = stands_at s sts s.stage

-- ---- words

abbrev pub in_transaction : Stage → Bool
in_transaction stage.Idle = false
in_transaction (stage.Begins g) = false
in_transaction _ = true

-- a statement is in progress
abbrev pub is_busy : Stage → Bool
is_busy stage.Idle = false
is_busy (stage.Open u) = false
is_busy _ = true

-- a statement was refused before it asked anything
abbrev pub is_refused : Stage → Bool
is_refused (stage.Refused u r) = true
is_refused _ = false

abbrev pub is_waiting : Stage → Bool
is_waiting (stage.Asks a) = waits_for_lock a.pending
is_waiting _ = false

-- its transaction ends
abbrev pub is_ending : Stage → Bool
is_ending (stage.Ends e) = true
is_ending _ = false

-- ---- what a session keeps

-- the plan of a first statement: it enlists at ds first
pub record Starts (plan : Planned) : Type 0 where
  pub none : plan.usage.used.0 ≡ 0
  pub rest : Answer → Talk Said
  pub first : now_talks plan ≡ asks 1 (request.Enlist plan.usage.tx) rest

abbrev pub IsGiven : Statement → Type 0
IsGiven st = (is_planned st ≡ true) × IsTrue (is_plain st)

-- a transaction with a branch at some node
abbrev pub IsUsed : Usage → Type 0
IsUsed u = IsNumber u.tx.0 × AreBranches u.used.0

pub record IsAsking (plan : Planned) : Type 0 where
  pub used : IsUsed plan.usage
  pub waiting : plan_waits plan ≡ true

pub record IsEnding (u : Usage) (d : Driving) : Type 0 where
  pub tx : d.tx ≡ u.tx
  pub sound : IsSound d
  pub asking : driver_waits d.stage ≡ false

abbrev pub IsWithin : Stage → Type 0
IsWithin stage.Idle = ⊤
IsWithin (stage.Open u) = IsUsed u
IsWithin (stage.Refused u r) = IsUsed u
IsWithin (stage.Begins g) = IsGiven g.statement
IsWithin (stage.Enters tx g) = IsNumber tx.0 × IsGiven g.statement
IsWithin (stage.Asks a) = IsAsking a.plan × IsPending a.pending
IsWithin (stage.Ends e) = IsEnding e.usage e.driver
