-- What a request to a server may be answered.
use Rattle.std.specs.Prelude.{◌≡◌, ℕ, ◌≤◌, ◌<◌, Bool, true, false, List, map, take, Option, ⊤}
use Rattle.hb_types.specs.declared.change.Stored.{Stored}
use Rattle.hb_types.specs.declared.lock.Mode.{Mode}
use Rattle.hb_types.specs.declared.lock.Mode.TheVariants as mode
use Rattle.hb_types.specs.declared.places.Path.{Path}
use Rattle.hb_types.specs.declared.places.Path.TheVariants as path
use Rattle.hb_types.specs.declared.answer.Answer.{Answer}
use Rattle.hb_types.specs.declared.answer.Answer.TheVariants as answer
use Rattle.hb_types.specs.declared.request.Request.{Request}
use Rattle.hb_types.specs.declared.request.Request.TheVariants as request
use Rattle.hb_types.specs.Ladders.{upward}
use Rattle.hb_types.specs.Put.{put_all, lookup, rows_under}
use Rattle.hb_runs.specs.Server.{Branch, SState, now, IsLive, IsAlive, IsInDoubt, IsUnended, HoldsOne}
use Rattle.hb_runs.specs.ServerEffects.{VoteHasRoom}

-- ---- what a request is answered

-- the rows as a branch sees them
abbrev pub view : SState → Branch → List Stored
view s b = put_all (now s).rows b.own

-- a read of all under a path, in these rows
pub record Reads (s : SState) (tx : ℕ) (p : Path) (Shows : List Stored → Type 0) : Type 0 where
  pub branch : Branch
  pub live : IsLive s tx branch
  pub covered : HoldsOne branch mode.S (upward p)
  pub shows : Shows (view s branch)

-- the branch does not hold what it needs
pub record Lacks (s : SState) (tx : ℕ) (m : Mode) (p : Path) : Type 0 where
  pub branch : Branch
  pub live : IsLive s tx branch
  pub uncovered : ¬ (HoldsOne branch m (upward p))

abbrev pub ReadRight : SState → ℕ → Path → (List Stored → Answer → Type 0) → Answer → Type 0
ReadRight s tx p Shows answer.NotLocked = Lacks s tx mode.S p
ReadRight s tx p Shows answer.NoBranch = ¬ (IsAlive s tx)
ReadRight s tx p Shows a = Reads s tx p (λ rows. Shows rows a)

abbrev pub ShowsRow : (List Stored → Option (List ℕ)) → List Stored → Answer → Type 0
ShowsRow f rows (answer.Row row) = row ≡ f rows
ShowsRow f rows _ = ⊥

abbrev pub ShowsRows : (List Stored → List Stored) → List Stored → Answer → Type 0
ShowsRows f rows (answer.Rows found) = found ≡ f rows
ShowsRows f rows _ = ⊥

abbrev pub LockRight : SState → ℕ → Answer → Type 0
LockRight s tx answer.Done = IsAlive s tx
LockRight s tx (answer.Blocked p m holders) = IsAlive s tx
LockRight s tx answer.NoBranch = ¬ (IsAlive s tx)
LockRight s tx _ = ⊥

-- a Write that is done is allowed by its effect
abbrev pub WriteRight : SState → ℕ → Path → Answer → Type 0
WriteRight s tx p answer.Done = ⊤
WriteRight s tx p answer.NotLocked = Lacks s tx mode.X p
WriteRight s tx p answer.NoBranch = ¬ (IsAlive s tx)
WriteRight s tx p _ = ⊥

abbrev pub PrepareRight : SState → ℕ → Answer → Type 0
PrepareRight s tx (answer.Vote floor) = floor.0 ≡ (now s).floor
PrepareRight s tx (answer.Fault area) = (area ≡ false) × (b : Branch) × IsLive s tx b × VoteHasRoom s b
PrepareRight s tx answer.NumbersSpent = (b : Branch) × IsLive s tx b × (¬ (VoteHasRoom s b))
PrepareRight s tx answer.NoBranch = ¬ (IsAlive s tx)
PrepareRight s tx _ = ⊥

abbrev pub CommitRight : SState → ℕ → ℕ → Answer → Type 0
CommitRight s tx n answer.Done = ⊤
CommitRight s tx n (answer.Fault area) = (area ≡ false) × (floor : ℕ) × IsInDoubt s tx floor × (floor < n)
CommitRight s tx n (answer.Low floor) = IsInDoubt s tx floor.0 × (n ≤ floor.0)
CommitRight s tx n answer.NotPrepared = IsAlive s tx
CommitRight s tx n answer.NoBranch = ¬ (IsUnended s tx)
CommitRight s tx n _ = ⊥

abbrev pub RollbackRight : SState → ℕ → Answer → Type 0
RollbackRight s tx answer.Done = ⊤
RollbackRight s tx (answer.Fault area) = (area ≡ false) × (floor : ℕ) × IsInDoubt s tx floor
RollbackRight s tx answer.NoBranch = ¬ (IsUnended s tx)
RollbackRight s tx _ = ⊥

-- of a point's requests a run says nothing but that they fault or don't
abbrev pub SyncRight : Answer → Type 0
SyncRight answer.Done = ⊤
SyncRight answer.More = ⊤
SyncRight answer.NumbersSpent = ⊤
SyncRight answer.NotBegun = ⊤
SyncRight (answer.Fault area) = ⊤
SyncRight _ = ⊥

-- of an up server
abbrev pub UpRight : SState → Request → Answer → Type 0
UpRight s (request.Enlist tx) answer.Done = ⊤
UpRight s (request.Enlist tx) _ = ⊥
UpRight s (request.Lock tx p m) a = LockRight s tx.0 a
UpRight s (request.Read tx place) a = ReadRight s tx.0 (path.Key place) (ShowsRow (lookup place)) a
UpRight s (request.Scan tx space) a = ReadRight s tx.0 (path.Whole space) (ShowsRows (rows_under (path.Whole space))) a
UpRight s (request.ScanGroup tx space group) a = ReadRight s tx.0 (path.Group space group) (ShowsRows (rows_under (path.Group space group))) a
UpRight s (request.GroupKeys space group most) (answer.Keys keys) = keys ≡ take most (map (λ r. r.place.key) (rows_under (path.Group space group) (now s).rows))
UpRight s (request.GroupKeys space group most) _ = ⊥
UpRight s (request.Write tx c) a = WriteRight s tx.0 (path.Key c.place) a
UpRight s (request.Prepare tx) a = PrepareRight s tx.0 a
UpRight s (request.Commit tx n) a = CommitRight s tx.0 n.0 a
UpRight s (request.Rollback tx) a = RollbackRight s tx.0 a
UpRight s request.SyncBegin a = SyncRight a
UpRight s request.SyncFlush a = SyncRight a
UpRight s request.SyncFinish a = SyncRight a
UpRight s request.Stop answer.Done = ⊤
UpRight s request.Stop _ = ⊥
UpRight s request.Start answer.AlreadyUp = ⊤
UpRight s request.Start answer.NoMemory = ⊤
UpRight s request.Start _ = ⊥
UpRight s _ answer.NotMine = ⊤
UpRight s _ _ = ⊥

-- of a stopped one: a Start tells the doubts
abbrev pub DownRight : SState → Request → Answer → Type 0
DownRight s request.Start (answer.Started found) = map (λ t. t.0) found ≡ map (λ p. p.tx) (now s).doubts
DownRight s request.Start (answer.Fault area) = ⊤
DownRight s request.Start (answer.Damaged area place) = ⊤
DownRight s request.Start answer.NoMemory = ⊤
DownRight s request.Start _ = ⊥
DownRight s _ answer.Down = ⊤
DownRight s _ _ = ⊥

-- the requests that never take memory
abbrev pub takes_none : Request → Bool
takes_none (request.Commit tx n) = true
takes_none (request.Rollback tx) = true
takes_none request.Stop = true
takes_none _ = false

abbrev pub RightIn : Bool → SState → Request → Answer → Type 0
RightIn true s q answer.NoMemory = takes_none q ≡ false
RightIn true s q a = UpRight s q a
RightIn false s q a = DownRight s q a

-- what a request may be answered, and must be where the answer tells of the state
abbrev pub Right : SState → Request → Answer → Type 0
Right s q a = RightIn s.up s q a
