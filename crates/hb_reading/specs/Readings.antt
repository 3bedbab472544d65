-- A reading: what is still to be said, and what follows an answer.
use Rattle.std.specs.Prelude.{◌≡◌, ◌≢◌, ℕ, Bool, true, false, List, [], Option, Result, Ok, Err, IfSome, ⊤}
use Rattle.hb_types.specs.declared.answer.Answer.{Answer}
use Rattle.hb_types.specs.declared.change.Stored.{Stored}
use Rattle.hb_types.specs.declared.entry.Entry.{Entry}
use Rattle.hb_model.specs.declared.reply.Reply.{Reply}
use Rattle.hb_model.specs.declared.reply.Reply.TheVariants as reply
use Rattle.hb_talk.specs.Sessions.{rolls_back}
use Rattle.hb_talk.specs.Talk.{Talk, says, Use, Planning, ◌>>=◌, pure, refused}
use Rattle.hb_access.specs.declared.access.Next.{Next}
use Rattle.hb_access.specs.declared.goal.Got.{Got}
use Rattle.hb_access.specs.declared.usage.Usage.{Usage}
use Rattle.hb_access.specs.Accesses.{use_of}
use Rattle.hb_access.specs.Accesses as access
use Rattle.hb_planrows.specs.PlanRows.{AreSited}
use Rattle.hb_round.specs.Onward.{Ends, onward, Asks}
use Rattle.hb_round.specs.Rounds.{AreRows}
use Rattle.hb_round.specs.Rounds as round
use Rattle.hb_round.specs.declared.round.Taken.{Taken as RoundTaken}
use Rattle.hb_round.specs.declared.round.Taken.TheVariants as brought
use Rattle.hb_round.specs.Sweeps.{gathering}
use Rattle.hb_reading.specs.declared.aim.Aim.{Aim}
use Rattle.hb_reading.specs.declared.reading.Brought.{Brought}
use Rattle.hb_reading.specs.declared.reading.Stage.{Stage}
use Rattle.hb_reading.specs.declared.reading.Stage.TheVariants as stage
use Rattle.hb_reading.specs.declared.reading.Taken.{Taken}
use Rattle.hb_reading.specs.declared.reading.Taken.TheVariants as taken
use Rattle.hb_reading.specs.declared.routing.Routed.{Routed}
use Rattle.hb_reading.specs.Aims.{sweep_of}
use Rattle.hb_reading.specs.Routes.{routed, TellsGot, TellsAnswer}

-- of which table, what, and how far
pub record Read : Type 0 where
  pub table : ℕ
  pub aim : Aim
  pub stage : Stage

abbrev pub uses_at : Stage → Usage
uses_at (stage.First a) = a.usage
uses_at (stage.Rows r entry) = r.access.usage

abbrev pub uses : Read → Usage
uses r = uses_at r.stage

abbrev pub asks_at : Stage → Bool
asks_at (stage.First a) = access.is_asking a.stage
asks_at (stage.Rows r entry) = round.is_asking r

abbrev pub is_asking : Read → Bool
is_asking r = asks_at r.stage

abbrev pub waits_at : Stage → Bool
waits_at (stage.First a) = access.is_waiting a.stage
waits_at (stage.Rows r entry) = round.is_waiting r

abbrev pub is_waiting : Read → Bool
is_waiting r = waits_at r.stage

-- ---- what is to be said

-- the rows with the entry
unfoldable pub bringing : Option Entry → List Stored → Planning Brought
bringing entry rows = pure (record { rows = rows; entry = entry })

unfoldable pub rows_along : ℕ → Aim → Routed → Planning Brought
rows_along table a r = gathering (sweep_of table a) r.areas [] >>= bringing r.entry

unfoldable pub or_refused : ℕ → Aim → Result Routed Reply → Planning Brought
or_refused table a (Ok r) = rows_along table a r
or_refused table a (Err e) = refused e

-- what follows the entries
unfoldable pub behind_entries : ℕ → Aim → Got → Planning Brought
behind_entries table a g = or_refused table a (routed a g)

abbrev pub talks_at : ℕ → Aim → Stage → Talk (Ends Brought)
talks_at table a (stage.First x) = onward (behind_entries table a) (access.now_talks x)
talks_at table a (stage.Rows r entry) = onward (bringing entry) (round.now_talks r)

abbrev pub hears_at : ℕ → Aim → Stage → Answer → Talk (Ends Brought)
hears_at table a (stage.First x) = λ answer. onward (behind_entries table a) (access.now_hears x answer)
hears_at table a (stage.Rows r entry) = λ answer. onward (bringing entry) (round.now_hears r answer)

-- what is still to be said, where no answer is awaited
abbrev pub now_talks : Read → Talk (Ends Brought)
now_talks r = talks_at r.table r.aim r.stage

-- what follows the answer that is awaited
abbrev pub now_hears : Read → Answer → Talk (Ends Brought)
now_hears r = hears_at r.table r.aim r.stage

abbrev pub now_uses : Read → Use
now_uses r = use_of (uses r)

abbrev pub NextIs : Read → Read → Next → Type 0
NextIs old new n = Asks (now_talks old) (now_hears new) (is_waiting new) (now_uses new) n

-- how a reading goes on with what is to be said: want of memory alone may end it at any place
abbrev pub GoesWith : Talk (Ends Brought) → Read → Taken → Type 0
GoesWith talk new taken.More = (is_asking new ≡ true) × (talk ≡ now_talks new)
GoesWith talk new (taken.Came b) = talk ≡ says (Ok b, now_uses new)
GoesWith talk new (taken.Refused r) = r ≢ reply.NoMemory → talk ≡ says (Err r, now_uses new)

-- after an answer the reading stands where its talk does
abbrev pub Hears : Read → Read → Answer → Taken → Type 0
Hears old new a t = GoesWith (now_hears old a) new t

-- where there is more, it is asked
abbrev pub AsksOn : Read → Taken → Type 0
AsksOn new taken.More = is_asking new ≡ true
AsksOn new (taken.Came b) = ⊤
AsksOn new (taken.Refused r) = ⊤

-- whether an answer was one that rolls the transaction back
abbrev pub rolls : Taken → Bool
rolls taken.More = false
rolls (taken.Came b) = false
rolls (taken.Refused r) = rolls_back r

-- what a round brought, with the entry
abbrev pub as_taken : Option Entry → RoundTaken → Taken
as_taken entry brought.More = taken.More
as_taken entry (brought.Came rows) = taken.Came (record { rows = rows; entry = entry })
as_taken entry (brought.Refused r) = taken.Refused r

-- ---- what answers have to be like

abbrev pub TellsAt : Stage → Answer → Type 0
TellsAt (stage.First x) a = TellsAnswer a
TellsAt (stage.Rows r entry) a = ⊤

-- where entries are awaited, rows that are answered are entries
abbrev pub IsTold : Read → Answer → Type 0
IsTold r a = TellsAt r.stage a

abbrev pub RowsAt : Stage → Type 0
RowsAt (stage.First x) = ⊤
RowsAt (stage.Rows r entry) = AreRows r.rows

-- the rows found are rows in the grammar
abbrev pub HasRows : Read → Type 0
HasRows r = RowsAt r.stage

abbrev pub BringsRows : Read → Taken → Type 0
BringsRows new taken.More = HasRows new
BringsRows new (taken.Came b) = AreRows b.rows
BringsRows new (taken.Refused r) = ⊤

-- an entry names areas of back ends
abbrev pub IsWithin : Stage → Type 0
IsWithin (stage.First x) = ⊤
IsWithin (stage.Rows r entry) = IfSome entry AreSited

abbrev pub IsSitedIn : Taken → Type 0
IsSitedIn (taken.Came b) = IfSome b.entry AreSited
IsSitedIn taken.More = ⊤
IsSitedIn (taken.Refused r) = ⊤

-- ---- steps

abbrev pub IsAtFirst : Stage → Type 0
IsAtFirst (stage.First x) = ⊤
IsAtFirst (stage.Rows r entry) = ⊥

-- what goes on with the entries that came
abbrev pub Enters : Read → Read → Got → Taken → Type 0
Enters old new g t = TellsGot g → GoesWith (behind_entries old.table old.aim g (now_uses old)) new t
