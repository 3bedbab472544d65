-- A batch of keys, as a part of a plan: what is still to be said, and what follows an answer.
use Rattle.std.specs.Prelude.{◌≡◌, ◌≢◌, ℕ, ◌+◌, ℤ, Bool, true, false, if◌then◌else◌, List, [], ◌∷◌, Option, Some, None, Ok, Err, IfSome, ⊤}
use Rattle.hb_types.specs.declared.answer.Answer.{Answer}
use Rattle.hb_types.specs.declared.answer.Answer.TheVariants as answer
use Rattle.hb_types.specs.declared.change.Change.{Change}
use Rattle.hb_types.specs.declared.entry.Entry.{Entry}
use Rattle.hb_types.specs.declared.lock.Mode.{Mode}
use Rattle.hb_types.specs.declared.lock.Mode.TheVariants as mode
use Rattle.hb_types.specs.declared.places.Path.TheVariants as path
use Rattle.hb_types.specs.Places.{node_of_area}
use Rattle.hb_types.specs.Rows.{IsRow}
use Rattle.hb_model.specs.declared.reply.Reply.TheVariants as reply
use Rattle.hb_model.specs.Shapes.{Hint as Moving}
use Rattle.hb_model.specs.Spots.{ds, entry_place, place_in}
use Rattle.hb_model.specs.Told.{entry_of}
use Rattle.hb_talk.specs.Moves.{is_hinted, moved, moving_keys}
use Rattle.hb_talk.specs.Plans.{removing, writes}
use Rattle.hb_talk.specs.Sessions.{rolls_back}
use Rattle.hb_talk.specs.Talk.{Talk, says, Use, Planning, ◌>>=◌, ◌>>◌, pure, lock, read}
use Rattle.hb_access.specs.declared.access.Next.{Next}
use Rattle.hb_access.specs.declared.goal.Goal.{Goal}
use Rattle.hb_access.specs.declared.goal.Got.{Got}
use Rattle.hb_access.specs.declared.goal.Got.TheVariants as got
use Rattle.hb_access.specs.Accesses.{Accessing, IsServer, use_of}
use Rattle.hb_access.specs.Accesses as access
use Rattle.hb_planrows.specs.PlanRows.{TellsEntry}
use Rattle.hb_round.specs.Onward.{Ends, onward, Asks}
use Rattle.hb_batch.specs.declared.batch.Part.{Part}
use Rattle.hb_batch.specs.declared.batch.Part.TheVariants as part
use Rattle.hb_batch.specs.declared.batch.Taken.{Taken}
use Rattle.hb_batch.specs.declared.batch.Taken.TheVariants as taken
use Rattle.hb_batch.specs.declared.hint.Hint.{Hint}

-- ---- hints

-- the group, as plans know it
abbrev pub hint_of : Hint → Moving
hint_of h = record { table = h.table; group = h.group; old = h.old; new = h.new }

-- both areas are of ds or of a back end
abbrev pub IsSitedHint : Hint → Type 0
IsSitedHint h = IsServer (node_of_area h.old) × IsServer (node_of_area h.new)

abbrev pub entry_goal : Moving → Mode → Goal
entry_goal h m = record { node = record { 0 = ds }; path = path.Key (entry_place h.table h.group); mode = m; reads = true }

abbrev pub key_goal : Moving → ℕ → ℤ → Bool → Goal
key_goal h area key reads = record { node = record { 0 = node_of_area area }; path = path.Key (place_in area h.table key); mode = mode.X; reads = reads }

-- ---- the plan from a place on

-- the keys that are left, once so many were moved
unfoldable pub left_of : Moving → List ℤ → ℕ → Planning (Option ℕ)
left_of h keys n = moving_keys h keys n >>= (λ m. pure (Some m))

-- once the row of a key was read
unfoldable pub with_row : Moving → ℤ → List ℤ → ℕ → Option (List ℕ) → Planning (Option ℕ)
with_row h key keys n row = moved h key row n >>= (λ m. left_of h keys m)

-- once the key is locked in both areas
unfoldable pub from_row : Moving → ℤ → List ℤ → ℕ → Planning (Option ℕ)
from_row h key keys n = read (node_of_area h.old) (place_in h.old h.table key) >>= with_row h key keys n

-- once it is locked in the old area
unfoldable pub from_new : Moving → ℤ → List ℤ → ℕ → Planning (Option ℕ)
from_new h key keys n = lock (node_of_area h.new) (path.Key (place_in h.new h.table key)) mode.X >> from_row h key keys n

-- before it is locked
unfoldable pub from_old : Moving → ℤ → List ℤ → ℕ → Planning (Option ℕ)
from_old h key keys n = lock (node_of_area h.old) (path.Key (place_in h.old h.table key)) mode.X >> from_new h key keys n

abbrev pub removal : Moving → ℤ → Change
removal h key = removing (place_in h.old h.table key)

abbrev pub addition : Moving → ℤ → List ℕ → Change
addition h key row = record { place = place_in h.new h.table key; row = Some row }

-- once its row is put in the new area
unfoldable pub from_out : Moving → ℤ → List ℤ → ℕ → Planning (Option ℕ)
from_out h key keys n = writes (removal h key ∷ []) >> left_of h keys (n + 1)

-- the entry that came, or none
abbrev pub entry_got : Got → Option Entry
entry_got (got.Row row) = entry_of row
entry_got (got.Rows rows) = None
entry_got got.Nothing = None

abbrev pub row_got : Got → Option (List ℕ)
row_got (got.Row row) = row
row_got (got.Rows rows) = None
row_got got.Nothing = None

abbrev pub if_hinted : Moving → List ℤ → ℕ → Bool → Planning (Option ℕ)
if_hinted h keys n is = if is then left_of h keys n else pure None

-- ---- where a batch stands

-- the access in progress, of which group, what for, for which key, the keys behind it, and how many were moved before
pub record Batching : Type 0 where
  pub access : Accessing
  pub hint : Hint
  pub part : Part
  pub key : ℤ
  pub keys : List ℤ
  pub moved : ℕ

abbrev pub is_asking : Batching → Bool
is_asking b = access.is_asking b.access.stage

abbrev pub is_waiting : Batching → Bool
is_waiting b = access.is_waiting b.access.stage

-- what follows the access in progress
unfoldable pub behind : Moving → Part → ℤ → List ℤ → ℕ → Got → Planning (Option ℕ)
behind h part.Entry key keys n g = if_hinted h keys n (is_hinted h (entry_got g))
behind h part.Old key keys n g = from_new h key keys n
behind h part.New key keys n g = from_row h key keys n
behind h part.Row key keys n g = with_row h key keys n (row_got g)
behind h part.Put key keys n g = from_out h key keys n
behind h part.Out key keys n g = left_of h keys (n + 1)

abbrev pub then_on : Batching → Got → Planning (Option ℕ)
then_on b = behind (hint_of b.hint) b.part b.key b.keys b.moved

-- what is still to be said, where no answer is awaited
abbrev pub now_talks : Batching → Talk (Ends (Option ℕ))
now_talks b = onward (then_on b) (access.now_talks b.access)

-- what follows the answer that is awaited
abbrev pub now_hears : Batching → Answer → Talk (Ends (Option ℕ))
now_hears b a = onward (then_on b) (access.now_hears b.access a)

abbrev pub now_uses : Batching → Use
now_uses b = use_of b.access.usage

abbrev pub NextIs : Batching → Batching → Next → Type 0
NextIs old new n = Asks (now_talks old) (now_hears new) (is_waiting new) (now_uses new) n

-- how a batch goes on with what is to be said: want of memory alone may end it at any place
abbrev pub GoesWith : Talk (Ends (Option ℕ)) → Batching → Taken → Type 0
GoesWith talk new taken.More = (is_asking new ≡ true) × (talk ≡ now_talks new)
GoesWith talk new (taken.Came m) = talk ≡ says (Ok m, now_uses new)
GoesWith talk new (taken.Refused r) = r ≢ reply.NoMemory → talk ≡ says (Err r, now_uses new)

-- after an answer the batch stands where its talk does
abbrev pub Hears : Batching → Batching → Answer → Taken → Type 0
Hears old new a t = GoesWith (now_hears old a) new t

-- where there is more, it is asked
abbrev pub AsksOn : Batching → Taken → Type 0
AsksOn new taken.More = is_asking new ≡ true
AsksOn new (taken.Came m) = ⊤
AsksOn new (taken.Refused r) = ⊤

-- whether an answer was one that rolls the transaction back
abbrev pub rolls : Taken → Bool
rolls taken.More = false
rolls (taken.Came m) = false
rolls (taken.Refused r) = rolls_back r

-- ---- what answers have to be like

-- what came is an entry
abbrev pub TellsGot : Got → Type 0
TellsGot (got.Row row) = TellsEntry row
TellsGot (got.Rows rows) = ⊤
TellsGot got.Nothing = ⊤

abbrev pub TellsAt : Part → Got → Type 0
TellsAt part.Entry g = TellsGot g
TellsAt _ g = ⊤

abbrev pub TellsAnswer : Answer → Type 0
TellsAnswer (answer.Row row) = TellsEntry row
TellsAnswer _ = ⊤

abbrev pub ToldAt : Part → Answer → Type 0
ToldAt part.Entry a = TellsAnswer a
ToldAt _ a = ⊤

-- where the entry is awaited, a row that is answered is an entry
abbrev pub IsTold : Batching → Answer → Type 0
IsTold b a = ToldAt b.part a

-- a row that came is one in the grammar
abbrev pub IsGot : Got → Type 0
IsGot (got.Row row) = IfSome row IsRow
IsGot (got.Rows rows) = ⊤
IsGot got.Nothing = ⊤

-- ---- steps

-- the transaction and its nodes are as before, and where there is more, it is asked
pub record Stays (old new : Batching) (t : Taken) : Type 0 where
  pub asking : AsksOn new t
  pub usage_tx : new.access.usage.tx.0 ≡ old.access.usage.tx.0
  pub usage_nodes : new.access.usage.used.0 ≡ old.access.usage.used.0

-- what goes on with what is to be said
pub record Goes (talk : Talk (Ends (Option ℕ))) (old new : Batching) (t : Taken) : Type 0 where
  pub goes : GoesWith talk new t
  pub stays : Stays old new t
