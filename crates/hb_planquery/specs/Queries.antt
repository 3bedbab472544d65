-- Statements on a table: their plans, by what is read and by how they end.
use Rattle.std.specs.Prelude.{◌≡◌, ℕ, ℤ, Bool, true, if◌then◌else◌, List, [], Option, Some, None, Result, Ok, Err, ⊤}
use Rattle.hb_types.specs.declared.change.Stored.{Stored}
use Rattle.hb_types.specs.declared.entry.Entry.{Entry}
use Rattle.hb_types.specs.declared.lock.Mode.{Mode}
use Rattle.hb_types.specs.declared.lock.Mode.TheVariants as mode
use Rattle.hb_types.specs.declared.places.Path.TheVariants as path
use Rattle.hb_types.specs.declared.value.Value.{Value}
use Rattle.hb_model.specs.declared.condition.Pred.{Pred}
use Rattle.hb_model.specs.declared.reply.Reply.{Reply}
use Rattle.hb_model.specs.declared.reply.Reply.TheVariants as reply
use Rattle.hb_model.specs.declared.statement.Set.{Set}
use Rattle.hb_model.specs.declared.statement.What.{What}
use Rattle.hb_model.specs.declared.statement.What.TheVariants as what
use Rattle.hb_model.specs.declared.table.Table.{Table}
use Rattle.hb_model.specs.Refusals.{first_refusal, insert_refusals, select_refusals, update_refusals}
use Rattle.hb_model.specs.Rows.{key_of, point}
use Rattle.hb_model.specs.Spots.{ds, tables_space, dictionary_space}
use Rattle.hb_model.specs.Told.{Found, table_among}
use Rattle.hb_talk.specs.Talk.{Planning, ◌>>=◌, pure, refused}
use Rattle.hb_talk.specs.Plans.{insert_plan, select_plan, update_plan, delete_plan, lock_plan, with_lying}
use Rattle.hb_access.specs.declared.goal.Goal.{Goal}
use Rattle.hb_access.specs.declared.goal.Got.{Got}
use Rattle.hb_access.specs.declared.goal.Got.TheVariants as got
use Rattle.hb_planrows.specs.PlanRows.{TellTables}
use Rattle.hb_reading.specs.declared.aim.Aim.{Aim}
use Rattle.hb_reading.specs.declared.aim.Aim.TheVariants as aim
use Rattle.hb_reading.specs.declared.reading.Brought.{Brought}
use Rattle.hb_reading.specs.Aims.{HasKey, reading}
use Rattle.hb_endings.specs.Endings.{End, refusal, answer, ending_talk, select_end, delete_end, update_end, insert_end}
use Rattle.hb_planquery.specs.declared.query.Query.{Query}
use Rattle.hb_planquery.specs.declared.query.Query.TheVariants as query

-- the plan of a statement on the table of a name
abbrev pub plan_of : List ℕ → Query → Planning Reply
plan_of name (query.Insert values) = insert_plan name values
plan_of name (query.Select w pred) = select_plan name w pred
plan_of name (query.Update sets pred) = update_plan name sets pred
plan_of name (query.Delete pred) = delete_plan name pred
plan_of name (query.Lock exclusive) = lock_plan name exclusive

-- ---- what is refused before rows are read

abbrev pub early_select : Table → What → Option Pred → Option Reply
early_select t w pred = first_refusal (select_refusals (with_lying t []) w pred)

abbrev pub early_update : Table → List Set → Option Pred → Option Reply
early_update t sets pred = first_refusal (update_refusals (with_lying t []) sets pred)

abbrev pub early_insert : Table → List Value → Option Reply
early_insert t values = first_refusal (insert_refusals t values)

abbrev pub early : Query → Table → Option Reply
early (query.Insert values) t = early_insert t values
early (query.Select w pred) t = early_select t w pred
early (query.Update sets pred) t = early_update t sets pred
early (query.Delete pred) t = early_select t what.All pred
early (query.Lock exclusive) t = None

-- ---- what is read

abbrev pub considered_aim : Mode → Option ℤ → Aim
considered_aim m (Some key) = aim.Point m key
considered_aim m None = aim.All m

abbrev pub insert_aim : Table → List Value → Aim
insert_aim t values = aim.Insert (key_of t values)

abbrev pub lock_aim : Bool → Aim
lock_aim exclusive = aim.Locks (if exclusive then mode.X else mode.S)

abbrev pub aim_at : Query → Table → Aim
aim_at (query.Insert values) t = insert_aim t values
aim_at (query.Select w pred) t = considered_aim mode.S (point t pred)
aim_at (query.Update sets pred) t = considered_aim mode.X (point t pred)
aim_at (query.Delete pred) t = considered_aim mode.X (point t pred)
aim_at (query.Lock exclusive) t = lock_aim exclusive

-- an aim where nothing refuses it
abbrev pub AimsAt : Option Reply → Aim → Result Aim Reply → Type 0
AimsAt refused wanted (Ok a) = (refused ≡ None) × (a ≡ wanted) × HasKey a
AimsAt refused wanted (Err r) = refused ≡ Some r

abbrev pub Aims : Query → Table → Result Aim Reply → Type 0
Aims q t a = AimsAt (early q t) (aim_at q t) a

-- ---- how it ends

abbrev pub insert_with : Found → List Value → List Stored → Option Entry → End
insert_with f values rows None = refusal reply.NoArea
insert_with f values rows (Some e) = insert_end f values e rows

abbrev pub end_at : Query → Found → Brought → End
end_at (query.Insert values) f b = insert_with f values b.rows b.entry
end_at (query.Select w pred) f b = select_end f.1 w pred b.rows
end_at (query.Update sets pred) f b = update_end f.1 sets pred b.rows
end_at (query.Delete pred) f b = delete_end f.1 pred b.rows
end_at (query.Lock exclusive) f b = answer reply.Locked

-- ---- one after another

-- the rows of the dictionary's tables that came
abbrev pub rows_in : Got → List Stored
rows_in (got.Rows rows) = rows
rows_in (got.Row row) = []
rows_in got.Nothing = []

abbrev pub TellsTables : Got → Type 0
TellsTables (got.Rows rows) = TellTables rows
TellsTables (got.Row row) = ⊤
TellsTables got.Nothing = ⊤

abbrev pub names_goal : Goal
names_goal = record { node = record { 0 = ds }; path = path.Whole (dictionary_space tables_space); mode = mode.S; reads = true }

unfoldable pub ending_at : Query → Found → Brought → Planning Reply
ending_at q f b = ending_talk (end_at q f b)

-- what follows the early refusals
unfoldable pub read_and_end : Query → Found → Option Reply → Planning Reply
read_and_end q f (Some r) = refused r
read_and_end q f None = reading f.0 (aim_at q f.1) >>= ending_at q f

-- what follows the table
unfoldable pub on_found : Query → Option Found → Planning Reply
on_found q None = refused reply.NoTable
on_found q (Some f) = read_and_end q f (early q f.1)

-- what follows the dictionary's tables
unfoldable pub behind_names : List ℕ → Query → Got → Planning Reply
behind_names name q g = on_found q (table_among (rows_in g) name)
