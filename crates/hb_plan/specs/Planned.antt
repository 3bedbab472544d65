-- A statement's plan: what is still to be said at each of its moments, and what follows an answer.
use Rattle.std.specs.Prelude.{◌≡◌, Bool, true, false, ◌⊎◌, Result, Ok, Err, ⊤}
use Rattle.hb_types.specs.declared.answer.Answer.{Answer}
use Rattle.hb_model.specs.declared.reply.Reply.{Reply}
use Rattle.hb_model.specs.declared.reply.Reply.TheVariants as reply
use Rattle.hb_model.specs.declared.statement.Statement.{Statement}
use Rattle.hb_model.specs.declared.statement.Statement.TheVariants as statement
use Rattle.hb_talk.specs.Sessions.{rolls_back}
use Rattle.hb_talk.specs.Talk.{Talk, says, asks, Use}
use Rattle.hb_access.specs.Accesses.{use_of}
use Rattle.hb_access.specs.declared.access.Next.{Next}
use Rattle.hb_access.specs.declared.access.Next.TheVariants as next
use Rattle.hb_access.specs.declared.usage.Usage.{Usage}
use Rattle.hb_planquery.specs.QueryPlans as query
use Rattle.hb_planquery.specs.declared.query_plan.Taken.{Taken as QueryTaken}
use Rattle.hb_planquery.specs.declared.query_plan.Taken.TheVariants as queried
use Rattle.hb_plandefine.specs.Defines as define
use Rattle.hb_plandefine.specs.declared.defining.Taken.{Taken as DefineTaken}
use Rattle.hb_plandefine.specs.declared.defining.Taken.TheVariants as defined
use Rattle.hb_plan.specs.declared.stage.Taken.{Taken}
use Rattle.hb_plan.specs.declared.stage.Taken.TheVariants as taken
use Rattle.hb_plan.specs.declared.stage.Stage.{Stage}
use Rattle.hb_plan.specs.declared.stage.Stage.TheVariants as stage

-- what a plan says in the end
abbrev pub Said : Type 0
Said = Result Reply Reply × Use

-- COMMIT and ROLLBACK have no plan
abbrev pub is_planned : Statement → Bool
is_planned statement.Commit = false
is_planned statement.Rollback = false
is_planned _ = true

-- ---- stages

abbrev pub usage_at : Stage → Usage
usage_at (stage.Query q) = query.uses q
usage_at (stage.Define d) = define.usage_at d
usage_at (stage.Ended u) = u

abbrev pub asking_at : Stage → Bool
asking_at (stage.Query q) = query.is_asking q
asking_at (stage.Define d) = define.is_asking d
asking_at (stage.Ended u) = false

abbrev pub waiting_at : Stage → Bool
waiting_at (stage.Query q) = query.is_waiting q
waiting_at (stage.Define d) = define.is_waiting d
waiting_at (stage.Ended u) = false

abbrev pub talks_at : Stage → Talk Said
talks_at (stage.Query q) = query.now_talks q
talks_at (stage.Define d) = define.now_talks d
talks_at (stage.Ended u) = says (Err reply.NoMemory, use_of u)

abbrev pub hears_at : Stage → Answer → Talk Said
hears_at (stage.Query q) a = query.now_hears q a
hears_at (stage.Define d) a = define.now_hears d a
hears_at (stage.Ended u) a = says (Err reply.NoMemory, use_of u)

-- the answer tells rows of the dictionary's shapes, and of the table's, where it is rows that are awaited
abbrev pub ToldAt : Stage → Answer → Type 0
ToldAt (stage.Query q) a = query.IsTold q a
ToldAt (stage.Define d) a = define.Tells d a
ToldAt (stage.Ended u) a = ⊤

-- ---- plans

-- what the transaction has used, and where the plan stands
pub record Planned : Type 0 where
  pub usage : Usage
  pub stage : Stage

abbrev pub planned_at : Stage → Planned
planned_at s = record { usage = usage_at s; stage = s }

unfoldable pub is_asking : Planned → Bool
is_asking p = asking_at p.stage

unfoldable pub is_waiting : Planned → Bool
is_waiting p = waiting_at p.stage

unfoldable pub now_talks : Planned → Talk Said
now_talks p = talks_at p.stage

unfoldable pub now_hears : Planned → Answer → Talk Said
now_hears p a = hears_at p.stage a

unfoldable pub IsTold : Planned → Answer → Type 0
IsTold p a = ToldAt p.stage a

-- ---- steps

-- a refusal that a talk says, or there was no memory
abbrev pub IsRefused : Talk Said → Reply → Use → Type 0
IsRefused talk r u = (talk ≡ says (Err r, u)) ⊎ (r ≡ reply.NoMemory)

-- what a plan does next: it asks what its talk asks, and awaits the answer, or it is refused
abbrev pub NextIs : Planned → Planned → Next → Type 0
NextIs old new (next.Ask node q) = (is_waiting new ≡ true) × (now_talks old ≡ asks node.0 q (now_hears new))
NextIs old new (next.Refused r) = (now_talks old ≡ says (Err r, use_of new.usage)) ⊎ (r ≡ reply.NoMemory)

abbrev pub StageNext : Stage → Stage → Next → Type 0
StageNext old new (next.Ask node q) = (waiting_at new ≡ true) × (talks_at old ≡ asks node.0 q (hears_at new))
StageNext old new (next.Refused r) = IsRefused (talks_at old) r (use_of (usage_at new))

-- after an answer the plan stands where its talk does
abbrev pub Hears : Planned → Planned → Answer → Taken → Type 0
Hears old new a taken.More = (is_asking new ≡ true) × (now_hears old a ≡ now_talks new)
Hears old new a (taken.Replied r) = now_hears old a ≡ says (Ok r, use_of new.usage)
Hears old new a (taken.Refused r) = (now_hears old a ≡ says (Err r, use_of new.usage)) ⊎ (r ≡ reply.NoMemory)

abbrev pub StageHears : Stage → Stage → Answer → Taken → Type 0
StageHears old new a taken.More = (asking_at new ≡ true) × (hears_at old a ≡ talks_at new)
StageHears old new a (taken.Replied r) = hears_at old a ≡ says (Ok r, use_of (usage_at new))
StageHears old new a (taken.Refused r) = IsRefused (hears_at old a) r (use_of (usage_at new))

-- where there is more, it is asked
abbrev pub AsksOn : Planned → Taken → Type 0
AsksOn new taken.More = is_asking new ≡ true
AsksOn new _ = ⊤

abbrev pub StageAsksOn : Stage → Taken → Type 0
StageAsksOn new taken.More = asking_at new ≡ true
StageAsksOn new _ = ⊤

-- whether an answer was one that rolls the transaction back
abbrev pub rolls : Taken → Bool
rolls taken.More = false
rolls (taken.Replied r) = false
rolls (taken.Refused r) = rolls_back r

-- what the parts' answers are here
abbrev pub of_query : QueryTaken → Taken
of_query queried.More = taken.More
of_query (queried.Replied r) = taken.Replied r
of_query (queried.Refused r) = taken.Refused r

abbrev pub of_define : DefineTaken → Taken
of_define defined.More = taken.More
of_define (defined.Replied r) = taken.Replied r
of_define (defined.Refused r) = taken.Refused r
