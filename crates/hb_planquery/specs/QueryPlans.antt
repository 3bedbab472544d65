-- The plan of a statement on a table: what is still to be said, and what follows an answer.
use Rattle.std.specs.Prelude.{◌≡◌, ◌≢◌, ℕ, Bool, true, false, List, Option, Some, None, Result, Ok, Err, ⊤}
use Rattle.hb_types.specs.declared.answer.Answer.{Answer}
use Rattle.hb_types.specs.declared.answer.Answer.TheVariants as answer
use Rattle.hb_model.specs.declared.reply.Reply.{Reply}
use Rattle.hb_model.specs.declared.reply.Reply.TheVariants as reply
use Rattle.hb_model.specs.declared.table.Table.{Table}
use Rattle.hb_model.specs.Told.{Found}
use Rattle.hb_talk.specs.Sessions.{rolls_back}
use Rattle.hb_talk.specs.Talk.{Talk, says, Use}
use Rattle.hb_access.specs.declared.access.Next.{Next}
use Rattle.hb_access.specs.declared.goal.Got.{Got}
use Rattle.hb_access.specs.declared.usage.Usage.{Usage}
use Rattle.hb_access.specs.Accesses.{use_of}
use Rattle.hb_access.specs.Accesses as access
use Rattle.hb_planrows.specs.PlanRows.{IsPlain, TellTables}
use Rattle.hb_round.specs.Onward.{onward, Asks}
use Rattle.hb_round.specs.Onward as part
use Rattle.hb_reading.specs.declared.reading.Brought.{Brought}
use Rattle.hb_reading.specs.Readings as reads
use Rattle.hb_writes.specs.declared.writing.Taken.{Taken as WritesTaken}
use Rattle.hb_writes.specs.declared.writing.Taken.TheVariants as written
use Rattle.hb_writes.specs.Writings as writes
use Rattle.hb_endings.specs.Rows.{AreOf}
use Rattle.hb_planquery.specs.declared.query.Query.{Query}
use Rattle.hb_planquery.specs.declared.query_plan.Stage.{Stage}
use Rattle.hb_planquery.specs.declared.query_plan.Stage.TheVariants as stage
use Rattle.hb_planquery.specs.declared.query_plan.Taken.{Taken}
use Rattle.hb_planquery.specs.declared.query_plan.Taken.TheVariants as taken
use Rattle.hb_planquery.specs.Queries.{behind_names, read_and_end, early, ending_at}

-- the statement, its table's name, and how far its plan is
pub record Querying : Type 0 where
  pub name : List ℕ
  pub query : Query
  pub stage : Stage

abbrev pub uses_at : Stage → Usage
uses_at (stage.Names a) = a.usage
uses_at (stage.Rows n t r) = reads.uses r
uses_at (stage.Writes w) = w.access.usage
uses_at (stage.Ended u) = u

abbrev pub uses : Querying → Usage
uses p = uses_at p.stage

abbrev pub now_uses : Querying → Use
now_uses p = use_of (uses p)

abbrev pub asks_at : Stage → Bool
asks_at (stage.Names a) = access.is_asking a.stage
asks_at (stage.Rows n t r) = reads.is_asking r
asks_at (stage.Writes w) = writes.is_asking w
asks_at (stage.Ended u) = false

abbrev pub is_asking : Querying → Bool
is_asking p = asks_at p.stage

abbrev pub waits_at : Stage → Bool
waits_at (stage.Names a) = access.is_waiting a.stage
waits_at (stage.Rows n t r) = reads.is_waiting r
waits_at (stage.Writes w) = writes.is_waiting w
waits_at (stage.Ended u) = false

abbrev pub is_waiting : Querying → Bool
is_waiting p = waits_at p.stage

-- ---- what is to be said

abbrev pub Replied : Type 0
Replied = part.Ends Reply

abbrev pub talks_at : List ℕ → Query → Stage → Talk Replied
talks_at name q (stage.Names a) = onward (behind_names name q) (access.now_talks a)
talks_at name q (stage.Rows n t r) = onward (ending_at q (n, t)) (reads.now_talks r)
talks_at name q (stage.Writes w) = writes.now_talks w
talks_at name q (stage.Ended u) = says (Err reply.NoMemory, use_of u)

abbrev pub hears_at : List ℕ → Query → Stage → Answer → Talk Replied
hears_at name q (stage.Names a) = λ x. onward (behind_names name q) (access.now_hears a x)
hears_at name q (stage.Rows n t r) = λ x. onward (ending_at q (n, t)) (reads.now_hears r x)
hears_at name q (stage.Writes w) = λ x. writes.now_hears w x
hears_at name q (stage.Ended u) = λ x. says (Err reply.NoMemory, use_of u)

-- what is still to be said, where no answer is awaited
abbrev pub now_talks : Querying → Talk Replied
now_talks p = talks_at p.name p.query p.stage

-- what follows the answer that is awaited
abbrev pub now_hears : Querying → Answer → Talk Replied
now_hears p = hears_at p.name p.query p.stage

abbrev pub NextIs : Querying → Querying → Next → Type 0
NextIs old new n = Asks (now_talks old) (now_hears new) (is_waiting new) (now_uses new) n

-- how a plan goes on with what is to be said: want of memory alone may end it at any place
abbrev pub GoesWith : Talk Replied → Querying → Taken → Type 0
GoesWith talk new taken.More = (is_asking new ≡ true) × (talk ≡ now_talks new)
GoesWith talk new (taken.Replied r) = talk ≡ says (Ok r, now_uses new)
GoesWith talk new (taken.Refused r) = r ≢ reply.NoMemory → talk ≡ says (Err r, now_uses new)

-- after an answer the plan stands where its talk does
abbrev pub Hears : Querying → Querying → Answer → Taken → Type 0
Hears old new a t = GoesWith (now_hears old a) new t

-- where there is more, it is asked
abbrev pub AsksOn : Querying → Taken → Type 0
AsksOn new taken.More = is_asking new ≡ true
AsksOn new (taken.Replied r) = ⊤
AsksOn new (taken.Refused r) = ⊤

-- whether an answer was one that rolls the transaction back
abbrev pub rolls : Taken → Bool
rolls taken.More = false
rolls (taken.Replied r) = false
rolls (taken.Refused r) = rolls_back r

-- what the writes made of an answer
abbrev pub as_taken : WritesTaken → Taken
as_taken written.More = taken.More
as_taken (written.Replied r) = taken.Replied r
as_taken (written.Refused r) = taken.Refused r

-- ---- what answers have to be like

-- an answer with rows is one with tables
abbrev pub TellsAnswer : Answer → Type 0
TellsAnswer (answer.Rows rows) = TellTables rows
TellsAnswer _ = ⊤

-- what is read of the table's rows in the end are its rows
abbrev pub IsTable : Table → Talk (part.Ends Brought) → Type 0
IsTable t talk = (b : Brought) (u : Use) → talk ≡ says (Ok b, u) → AreOf t b.rows

abbrev pub ToldAt : Stage → Answer → Type 0
ToldAt (stage.Names x) a = TellsAnswer a
ToldAt (stage.Rows n t r) a = reads.IsTold r a × IsTable t (reads.now_hears r a)
ToldAt (stage.Writes w) a = ⊤
ToldAt (stage.Ended u) a = ⊤

-- the dictionary's rows are tables and entries, and the table's rows fit its columns
abbrev pub IsTold : Querying → Answer → Type 0
IsTold p a = ToldAt p.stage a

abbrev pub IsWithin : Stage → Type 0
IsWithin (stage.Names x) = ⊤
IsWithin (stage.Rows n t r) = IsPlain t
IsWithin (stage.Writes w) = ⊤
IsWithin (stage.Ended u) = ⊤

-- ---- steps

abbrev pub IsAtNames : Stage → Type 0
IsAtNames (stage.Names x) = ⊤
IsAtNames (stage.Rows n t r) = ⊥
IsAtNames (stage.Writes w) = ⊥
IsAtNames (stage.Ended u) = ⊥

abbrev pub IsReading : Stage → Type 0
IsReading (stage.Names x) = ⊥
IsReading (stage.Rows n t r) = ⊤
IsReading (stage.Writes w) = ⊥
IsReading (stage.Ended u) = ⊥

abbrev pub IsEnded : Stage → Type 0
IsEnded (stage.Names x) = ⊥
IsEnded (stage.Rows n t r) = ⊥
IsEnded (stage.Writes w) = ⊥
IsEnded (stage.Ended u) = ⊤

-- the table whose rows are read
abbrev pub HasTable : Stage → Option Found → Type 0
HasTable (stage.Names x) o = ⊤
HasTable (stage.Rows n t r) (Some f) = f ≡ (n, t)
HasTable (stage.Rows n t r) None = ⊥
HasTable (stage.Writes w) o = ⊤
HasTable (stage.Ended u) o = ⊤

-- what goes on with the tables that came
abbrev pub Finds : Querying → Querying → Got → Taken → Type 0
Finds old new g t = GoesWith (behind_names old.name old.query g (now_uses old)) new t

-- what goes on with a table
abbrev pub Reads : Querying → Querying → ℕ → Table → Taken → Type 0
Reads old new n table t = GoesWith (read_and_end old.query (n, table) (early old.query table) (now_uses old)) new t

abbrev pub EndsAt : Stage → Querying → Querying → Brought → Taken → Type 0
EndsAt (stage.Names x) old new b t = ⊤
EndsAt (stage.Rows n table r) old new b t = AreOf table b.rows → GoesWith (ending_at old.query (n, table) b (now_uses old)) new t
EndsAt (stage.Writes w) old new b t = ⊤
EndsAt (stage.Ended u) old new b t = ⊤

-- what goes on with what was read
abbrev pub Ends : Querying → Querying → Brought → Taken → Type 0
Ends old new b t = EndsAt old.stage old new b t
