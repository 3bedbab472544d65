-- How far a branch is, its vote, and its ends.
use Rattle.std.specs.Prelude.{◌≡◌, ℕ, ◌<◌, Bool, List, Option, Some, None, is_some}
use Rattle.hb_engine.specs.declared.slot.Slot.{Slot}
use Rattle.hb_types.specs.declared.answer.Answer.TheVariants as answer
use Rattle.hb_types.specs.declared.change.Change.{Change}
use Rattle.hb_types.specs.declared.change.LogItem.{LogItem}
use Rattle.hb_types.specs.declared.change.Stored.{Stored}
use Rattle.hb_types.specs.declared.names.Number.{Number}
use Rattle.hb_types.specs.declared.names.Tx.{Tx}
use Rattle.hb_types.specs.declared.request.Request.TheVariants as request
use Rattle.hb_types.specs.Put.{put_all}
use Rattle.hb_disks.specs.Redo.{changes_of}
use Rattle.hb_runs.specs.Server.{Branch, SState, now, IsAlive, IsLive, IsInDoubt, IsUnended}
use Rattle.hb_runs.specs.ServerEffects.{VoteHasRoom, vote_of}
use Rattle.hb_engine.specs.declared.ends.Standing.{Standing}
use Rattle.hb_engine.specs.declared.ends.Standing.TheVariants.{Absent, Live, Voted}
use Rattle.hb_engine.specs.declared.engine.Engine.{Engine}
use Rattle.hb_engine.specs.Turned.{StandsFor, Turned}

-- the branch has voted
abbrev pub has_voted : Slot → Bool
has_voted slot = is_some slot.vote

abbrev pub IsStanding : SState → ℕ → Standing → Type 0
IsStanding s tx Absent = ¬ (IsUnended s tx)
IsStanding s tx Live = IsAlive s tx
IsStanding s tx (Voted floor) = IsInDoubt s tx floor.0 × (¬ (IsAlive s tx))

-- the record of the vote of a live branch, or none where none lives
abbrev pub IsVote : SState → ℕ → Option LogItem → Type 0
IsVote s tx None = ¬ (IsAlive s tx)
IsVote s tx (Some item) = (b : Branch) × IsLive s tx b × (item ≡ vote_of s b)

-- Once the record of a live branch's vote stands, for which there was room: the vote tells this floor, and the branch is in doubt.
abbrev pub Votes : Engine → Engine → Tx → Number → Type 0
Votes old new tx floor =
    (rows : List Stored) (s : SState) (b : Branch) → StandsFor old rows s → IsLive s tx.0 b → VoteHasRoom s b
    → Turned s (request.Prepare tx) (answer.Vote floor) (λ t. StandsFor new rows t)

-- no branch of the transaction is in doubt
abbrev pub NoneInDoubt : Engine → Tx → Type 0
NoneInDoubt e tx = (rows : List Stored) (s : SState) (floor : ℕ) → StandsFor e rows s → IsInDoubt s tx.0 floor → ⊥

-- Once the Commit of a branch in doubt stands, of a number above its floor: the branch has ended, and the rows have its changes.
abbrev pub Commits : Engine → Engine → Tx → Number → List Change → Type 0
Commits old new tx number changes =
    (rows : List Stored) (s : SState) (floor : ℕ) → StandsFor old rows s → IsInDoubt s tx.0 floor
    → (changes_of tx.0 (now s).doubts ≡ changes)
    × (floor < number.0 → Turned s (request.Commit tx number) answer.Done (λ t. StandsFor new (put_all rows changes) t))

-- once the Abort of a branch in doubt stands, which had these changes
abbrev pub Aborts : Engine → Engine → Tx → List Change → Type 0
Aborts old new tx changes =
    (rows : List Stored) (s : SState) (floor : ℕ) → StandsFor old rows s → IsInDoubt s tx.0 floor
    → (changes_of tx.0 (now s).doubts ≡ changes) × Turned s (request.Rollback tx) answer.Done (λ t. StandsFor new rows t)

-- a live branch is given up
abbrev pub Drops : Engine → Engine → Tx → Type 0
Drops old new tx = (rows : List Stored) (s : SState) → StandsFor old rows s → IsAlive s tx.0 → Turned s (request.Rollback tx) answer.Done (λ t. StandsFor new rows t)
