-- The plan of a check, a batch or a finish: what is still to be said, and what follows an answer.
use Rattle.std.specs.Prelude.{◌≡◌, ◌≢◌, ℕ, ◌≤◌, pos, Bool, true, false, if◌then◌else◌, List, [], ◌∷◌, map, filter_map, All, Option, Some, None, option_map, Result, Ok, Err, ⊤}
use Rattle.hb_types.specs.declared.answer.Answer.{Answer}
use Rattle.hb_types.specs.declared.answer.Answer.TheVariants as answer
use Rattle.hb_types.specs.declared.change.Change.{Change}
use Rattle.hb_types.specs.declared.change.Stored.{Stored}
use Rattle.hb_types.specs.declared.entry.Entry.{Entry}
use Rattle.hb_types.specs.declared.entry.Entry.TheVariants.{At, Moving as Between}
use Rattle.hb_types.specs.declared.lock.Mode.TheVariants as mode
use Rattle.hb_types.specs.declared.places.Path.TheVariants as path
use Rattle.hb_types.specs.Places.{node_of_area}
use Rattle.hb_model.specs.declared.reply.Reply.{Reply}
use Rattle.hb_model.specs.declared.reply.Reply.TheVariants as reply
use Rattle.hb_model.specs.Dictionary.{entry_row}
use Rattle.hb_model.specs.Shapes.{Hint as Moving}
use Rattle.hb_model.specs.Spots.{ds, dictionary_space, entries_space, tables_space, entry_place, space_in}
use Rattle.hb_model.specs.Told.{table_among}
use Rattle.hb_talk.specs.Moves.{Finish as Finding, other, row_there, set, hint_in, is_hinted, setting}
use Rattle.hb_talk.specs.Plans.{putting}
use Rattle.hb_talk.specs.Sessions.{rolls_back}
use Rattle.hb_talk.specs.Talk.{Talk, says, going_on, Use, Planning, ◌>>=◌, ◌>>◌, pure, refused, lock, scan_group, write}
use Rattle.hb_access.specs.declared.access.Next.{Next}
use Rattle.hb_access.specs.declared.goal.Goal.{Goal}
use Rattle.hb_access.specs.declared.goal.Got.{Got}
use Rattle.hb_access.specs.declared.goal.Got.TheVariants as got
use Rattle.hb_access.specs.declared.usage.Usage.{Usage}
use Rattle.hb_access.specs.Accesses.{use_of}
use Rattle.hb_access.specs.Accesses as access
use Rattle.hb_planrows.specs.PlanRows.{TellTables, TellEntries}
use Rattle.hb_round.specs.Onward.{Ends, onward, Asks}
use Rattle.hb_batch.specs.Batches.{hint_of, entry_got, IsSitedHint, TellsAnswer, TellsGot}
use Rattle.hb_batch.specs.Batches as batch
use Rattle.hb_batch.specs.declared.batch.Taken.{Taken as BatchTaken}
use Rattle.hb_batch.specs.declared.batch.Taken.TheVariants as batched
use Rattle.hb_moveplan.specs.Parts.{Checking, Finishing}
use Rattle.hb_moveplan.specs.declared.finish.Finished.{Finished}
use Rattle.hb_moveplan.specs.declared.finish.Finished.TheVariants as ended
use Rattle.hb_moveplan.specs.declared.finish.Part.{Part}
use Rattle.hb_moveplan.specs.declared.finish.Part.TheVariants as part
use Rattle.hb_moveplan.specs.declared.found.Found.{Found}
use Rattle.hb_moveplan.specs.declared.found.Found.TheVariants as found
use Rattle.hb_moveplan.specs.declared.found.Taken.{Taken}
use Rattle.hb_moveplan.specs.declared.found.Taken.TheVariants as taken
use Rattle.hb_moveplan.specs.declared.plan.Plan.{Plan}
use Rattle.hb_moveplan.specs.declared.plan.Plan.TheVariants as plan

-- ---- what a plan comes to

pub data Came : Type 0 where
  hints : List Moving → Came
  moved : Option ℕ → Came
  finished : Finding → Came

abbrev pub told : {A B : Type 0} → (A → B) → Result A Reply → Result B Reply
told f (Ok a) = Ok (f a)
told f (Err r) = Err r

-- a talk's end, told as what a plan came to
abbrev pub coming : {A : Type 0} → (A → Came) → Talk (Ends A) → Talk (Ends Came)
coming f t = going_on (λ e. says (told f e.0, e.1)) t

abbrev pub finding_of : Finished → Finding
finding_of ended.Other = other
finding_of ended.RowThere = row_there
finding_of ended.Set = set

abbrev pub came_of : Found → Came
came_of (found.Hints hs) = hints (map hint_of hs)
came_of (found.Moved m) = moved m
came_of (found.Finished f) = finished (finding_of f)

-- what a batch's answer is here
abbrev pub taken_by : BatchTaken → Taken
taken_by batched.More = taken.More
taken_by (batched.Came m) = taken.Came (found.Moved m)
taken_by (batched.Refused r) = taken.Refused r

-- ---- a check

-- the rows that came, or none
abbrev pub rows_got : Got → List Stored
rows_got (got.Rows rows) = rows
rows_got (got.Row row) = []
rows_got got.Nothing = []

abbrev pub names_goal : Goal
names_goal = record { node = record { 0 = ds }; path = path.Whole (dictionary_space tables_space); mode = mode.S; reads = true }

abbrev pub entries_goal : ℕ → Goal
entries_goal table = record { node = record { 0 = ds }; path = path.Group (dictionary_space entries_space) table; mode = mode.S; reads = true }

-- the group, if its entry moves
abbrev pub hint_by : ℕ → ℕ → Option Entry → Option Moving
hint_by table group None = None
hint_by table group (Some (At a)) = None
hint_by table group (Some (Between a b)) = Some (record { table = table; group = group; old = a; new = b })

-- the groups that move, among the entries of a table
abbrev pub hints_among : ℕ → List Stored → List Moving
hints_among table rows = filter_map (hint_in table) rows

-- once the table is found
unfoldable pub from_table : ℕ → Planning (List Moving)
from_table table = lock ds (path.Group (dictionary_space entries_space) table) mode.S
    >> (scan_group ds (dictionary_space entries_space) table >>= (λ rows. pure (hints_among table rows)))

-- once the tables came, with the number of the one that is named
unfoldable pub from_number : Option ℕ → Planning (List Moving)
from_number None = refused reply.NoTable
from_number (Some table) = from_table table

-- once rows came: those of the tables, or those of the table's entries
unfoldable pub from_rows : List ℕ → Option ℕ → List Stored → Planning (List Moving)
from_rows name None rows = from_number (option_map (λ f. f.0) (table_among rows name))
from_rows name (Some table) rows = pure (hints_among table rows)

-- what follows the access in progress
abbrev pub check_on : Checking → Got → Planning (List Moving)
check_on c g = from_rows c.name c.table (rows_got g)

abbrev pub check_talks : Checking → Talk (Ends (List Moving))
check_talks c = onward (check_on c) (access.now_talks c.access)

abbrev pub check_hears : Checking → Answer → Talk (Ends (List Moving))
check_hears c a = onward (check_on c) (access.now_hears c.access a)

abbrev pub check_uses : Checking → Use
check_uses c = use_of c.access.usage

-- ---- a finish

-- the group in the old area
abbrev pub group_goal : Moving → Goal
group_goal h = record { node = record { 0 = node_of_area h.old }; path = path.Group (space_in h.old h.table) h.group; mode = mode.S; reads = true }

-- the entry's new row
abbrev pub entry_change : Moving → Change
entry_change h = putting (entry_place h.table h.group) (entry_row (At h.new))

-- once the entry is the hinted one
unfoldable pub from_group : Moving → Planning Finding
from_group h = lock (node_of_area h.old) (path.Group (space_in h.old h.table) h.group) mode.S
    >> (scan_group (node_of_area h.old) (space_in h.old h.table) h.group >>= setting h)

-- once the entry is read
abbrev pub if_still : Moving → Bool → Planning Finding
if_still h is = if is then from_group h else pure other

-- once the group is read
abbrev pub if_empty : Moving → Bool → Planning Finding
if_empty h is = if is then write ds (entry_change h) >> pure set else pure row_there

-- whether rows came, and none
abbrev pub is_empty : Got → Bool
is_empty (got.Rows []) = true
is_empty (got.Rows (r ∷ rs)) = false
is_empty (got.Row row) = false
is_empty got.Nothing = false

-- what follows the access in progress
unfoldable pub behind : Moving → Part → Got → Planning Finding
behind h part.Entry g = if_still h (is_hinted h (entry_got g))
behind h part.Group g = if_empty h (is_empty g)
behind h part.Write g = pure set

abbrev pub finish_on : Finishing → Got → Planning Finding
finish_on f = behind (hint_of f.hint) f.part

abbrev pub finish_talks : Finishing → Talk (Ends Finding)
finish_talks f = onward (finish_on f) (access.now_talks f.access)

abbrev pub finish_hears : Finishing → Answer → Talk (Ends Finding)
finish_hears f a = onward (finish_on f) (access.now_hears f.access a)

abbrev pub finish_uses : Finishing → Use
finish_uses f = use_of f.access.usage

-- ---- a plan

abbrev pub usage_of : Plan → Usage
usage_of (plan.Check c) = c.access.usage
usage_of (plan.Batch b) = b.access.usage
usage_of (plan.Finish f) = f.access.usage

abbrev pub is_asking : Plan → Bool
is_asking (plan.Check c) = access.is_asking c.access.stage
is_asking (plan.Batch b) = batch.is_asking b
is_asking (plan.Finish f) = access.is_asking f.access.stage

abbrev pub is_waiting : Plan → Bool
is_waiting (plan.Check c) = access.is_waiting c.access.stage
is_waiting (plan.Batch b) = batch.is_waiting b
is_waiting (plan.Finish f) = access.is_waiting f.access.stage

-- what is still to be said, where no answer is awaited
abbrev pub now_talks : Plan → Talk (Ends Came)
now_talks (plan.Check c) = coming hints (check_talks c)
now_talks (plan.Batch b) = coming moved (batch.now_talks b)
now_talks (plan.Finish f) = coming finished (finish_talks f)

-- what follows the answer that is awaited
abbrev pub now_hears : Plan → Answer → Talk (Ends Came)
now_hears (plan.Check c) a = coming hints (check_hears c a)
now_hears (plan.Batch b) a = coming moved (batch.now_hears b a)
now_hears (plan.Finish f) a = coming finished (finish_hears f a)

abbrev pub now_uses : Plan → Use
now_uses p = use_of (usage_of p)

-- what is asked next is what is to be said, and its answer is awaited, or it is refused
abbrev pub NextIs : Plan → Plan → Next → Type 0
NextIs old new n = Asks (now_talks old) (now_hears new) (is_waiting new) (now_uses new) n

-- how a plan goes on with what is to be said: want of memory alone may end it at any place
abbrev pub GoesWith : Talk (Ends Came) → Plan → Taken → Type 0
GoesWith talk new taken.More = (is_asking new ≡ true) × (talk ≡ now_talks new)
GoesWith talk new (taken.Came f) = talk ≡ says (Ok (came_of f), now_uses new)
GoesWith talk new (taken.Refused r) = r ≢ reply.NoMemory → talk ≡ says (Err r, now_uses new)

-- after an answer the plan stands where its talk does
abbrev pub Hears : Plan → Plan → Answer → Taken → Type 0
Hears old new a t = GoesWith (now_hears old a) new t

-- where there is more, it is asked
abbrev pub AsksOn : Plan → Taken → Type 0
AsksOn new taken.More = is_asking new ≡ true
AsksOn new (taken.Came f) = ⊤
AsksOn new (taken.Refused r) = ⊤

-- whether an answer was one that rolls the transaction back
abbrev pub rolls : Taken → Bool
rolls taken.More = false
rolls (taken.Came f) = false
rolls (taken.Refused r) = rolls_back r

-- the groups that were found lie in areas of ds or of back ends
abbrev pub AreSited : Found → Type 0
AreSited (found.Hints hs) = All IsSitedHint hs
AreSited (found.Moved m) = ⊤
AreSited (found.Finished f) = ⊤

abbrev pub AreSitedIn : Taken → Type 0
AreSitedIn taken.More = ⊤
AreSitedIn (taken.Came f) = AreSited f
AreSitedIn (taken.Refused r) = ⊤

-- ---- what answers have to be like

-- a row at the number of a group
abbrev pub TellsGroup : Stored → Type 0
TellsGroup r = (n : ℕ) × (n ≤ 65535) × (r.place.key ≡ pos n)

-- the entries of groups
abbrev pub TellGroups : List Stored → Type 0
TellGroups rows = TellEntries rows × All TellsGroup rows

-- the rows of the tables, and then those of the table's entries
abbrev pub RowsTold : Option ℕ → List Stored → Type 0
RowsTold None rows = TellTables rows
RowsTold (Some table) rows = TellGroups rows

abbrev pub CheckTold : Option ℕ → Answer → Type 0
CheckTold table (answer.Rows rows) = RowsTold table rows
CheckTold table _ = ⊤

abbrev pub FinishTold : Part → Answer → Type 0
FinishTold part.Entry a = TellsAnswer a
FinishTold part.Group a = ⊤
FinishTold part.Write a = ⊤

abbrev pub FinishTells : Part → Got → Type 0
FinishTells part.Entry g = TellsGot g
FinishTells part.Group g = ⊤
FinishTells part.Write g = ⊤

-- where rows of the dictionary are awaited, those that are answered are tables or entries
abbrev pub IsTold : Plan → Answer → Type 0
IsTold (plan.Check c) a = CheckTold c.table a
IsTold (plan.Batch b) a = batch.IsTold b a
IsTold (plan.Finish f) a = FinishTold f.part a

-- ---- steps

-- the transaction and its nodes are as before, and where there is more, it is asked
pub record Stays (old new : Plan) (t : Taken) : Type 0 where
  pub asking : AsksOn new t
  pub usage_tx : (usage_of new).tx.0 ≡ (usage_of old).tx.0
  pub usage_nodes : (usage_of new).used.0 ≡ (usage_of old).used.0
  pub sited : AreSitedIn t

-- what goes on with what is to be said
pub record Goes (talk : Talk (Ends Came)) (old new : Plan) (t : Taken) : Type 0 where
  pub goes : GoesWith talk new t
  pub stays : Stays old new t
