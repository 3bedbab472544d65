-- What happens to a server: its effects, when they are allowed, and what they make of its state.
use Rattle.std.specs.Prelude.{◌≡◌, ℕ, ◌+◌, ◌*◌, ◌≤◌, ◌<◌, ◌==◌, true, false, if◌then◌else◌, List, [], ◌∷◌, ◌++◌, length, ⊤}
use Rattle.hb_types.specs.declared.change.Change.{Change}
use Rattle.hb_types.specs.declared.change.LogItem.{LogItem}
use Rattle.hb_types.specs.declared.change.LogItem.TheVariants as item
use Rattle.hb_types.specs.declared.lock.Mode.{Mode}
use Rattle.hb_types.specs.declared.lock.Mode.TheVariants as mode
use Rattle.hb_types.specs.declared.places.Path.{Path}
use Rattle.hb_types.specs.declared.places.Path.TheVariants as path
use Rattle.hb_types.specs.Ladders.{upward}
use Rattle.hb_types.specs.Lists.{Each}
use Rattle.hb_types.specs.Numbers.{greatest}
use Rattle.hb_types.specs.Places.{ancestors, intention}
use Rattle.hb_types.specs.Put.{normal}
use Rattle.hb_types.specs.Records.{record_length, body_bytes}
use Rattle.hb_disks.specs.LogRules.{IsHeld}
use Rattle.hb_disks.specs.LogPlaces.{end_behind}
use Rattle.hb_runs.specs.Server.{Branch, SState, now, IsLive, IsAlive, IsInDoubt, IsUnended, wanted, granting, AllowsLock, HoldsOne}

-- ---- effects

pub data Effect : Type 0 where
  enlisted : (tx : ℕ) → Effect
  granted : (tx : ℕ) → (p : Path) → (m : Mode) → Effect
  written : (tx : ℕ) → (c : Change) → Effect
  prepared : (tx : ℕ) → Effect
  committed : (tx : ℕ) → (number : ℕ) → Effect
  aborted : (tx : ℕ) → Effect
  dropped : (tx : ℕ) → Effect
  lost : Effect
  came_up : Effect

abbrev pub without_live : ℕ → List Branch → List Branch
without_live tx [] = []
without_live tx (b ∷ bs) = if b.tx == tx then without_live tx bs else b ∷ without_live tx bs

-- the branches of a transaction changed
abbrev pub changing : ℕ → (Branch → Branch) → List Branch → List Branch
changing tx f [] = []
changing tx f (b ∷ bs) = if b.tx == tx then f b ∷ changing tx f bs else b ∷ changing tx f bs

abbrev pub grant : Path → Mode → Branch → Branch
grant p m b = record b { locks = granting p m b.locks }

abbrev pub write : Change → Branch → Branch
write c b = record b { own = b.own ++ c ∷ [] }

-- the record of a vote
abbrev pub vote_of : SState → Branch → LogItem
vote_of s b = item.Prepare (record { 0 = b.tx }) (record { 0 = (now s).floor }) b.locks (normal b.own)

-- the record of the vote of a transaction's live branch
abbrev pub votes_of : SState → ℕ → List Branch → List LogItem
votes_of s tx [] = []
votes_of s tx (b ∷ bs) = if b.tx == tx then vote_of s b ∷ [] else votes_of s tx bs

abbrev pub happens : SState → Effect → SState
happens s (enlisted tx) = record s { live = s.live ++ record { tx = tx; locks = []; own = [] } ∷ [] }
happens s (granted tx p m) = record s { live = changing tx (grant p m) s.live }
happens s (written tx c) = record s { live = changing tx (write c) s.live }
happens s (prepared tx) = record s { live = without_live tx s.live; log = s.log ++ votes_of s tx s.live }
happens s (committed tx n) = record s { log = s.log ++ item.Commit (record { 0 = tx }) (record { 0 = n }) ∷ [] }
happens s (aborted tx) = record s { log = s.log ++ item.Abort (record { 0 = tx }) ∷ [] }
happens s (dropped tx) = record s { live = without_live tx s.live }
happens s lost = record s { live = []; up = false }
happens s came_up = record s { up = true }

-- the log with this record, the closed gate behind it, and room for the ends of so many branches
abbrev pub HasRoomFor : SState → LogItem → ℕ → Type 0
HasRoomFor s i branches = end_behind s.place s.log + record_length i + 1 + 32 * branches ≤ greatest

-- the record of a vote has room: its own branch's end too, and its body
abbrev pub VoteHasRoom : SState → Branch → Type 0
VoteHasRoom s b = HasRoomFor s (vote_of s b) (length (now s).doubts + 1) × (length (body_bytes (vote_of s b)) ≤ 8388608)

abbrev pub Allowed : SState → Effect → Type 0
Allowed s (enlisted tx) = ¬ (IsUnended s tx)
Allowed s (granted tx p m) =
    (b : Branch) × IsLive s tx b × Each (IsHeld b.locks (intention m)) (ancestors p) × AllowsLock s tx (wanted p m b.locks)
Allowed s (written tx c) = (b : Branch) × IsLive s tx b × HoldsOne b mode.X (upward (path.Key c.place))
Allowed s (prepared tx) = (b : Branch) × IsLive s tx b × VoteHasRoom s b
Allowed s (committed tx n) = (floor : ℕ) × IsInDoubt s tx floor × (floor < n)
Allowed s (aborted tx) = (floor : ℕ) × IsInDoubt s tx floor
Allowed s (dropped tx) = IsAlive s tx
Allowed s lost = ⊤
Allowed s came_up = s.up ≡ false

-- effects, one after another
abbrev pub Steps : SState → List Effect → SState → Type 0
Steps s [] t = s ≡ t
Steps s (e ∷ es) t = Allowed s e × Steps (happens s e) es t

-- the state after effects
abbrev pub after_all : SState → List Effect → SState
after_all s [] = s
after_all s (e ∷ es) = after_all (happens s e) es
