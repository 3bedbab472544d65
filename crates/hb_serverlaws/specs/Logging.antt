-- A server's log stays right along its run, and its records are those of the requests.
use Rattle.std.specs.Prelude.{◌≡◌, ℕ, false, List, [], ◌∷◌, ◌++◌, ◌⊎◌}
use Rattle.hb_types.specs.declared.change.LogItem.{LogItem}
use Rattle.hb_types.specs.declared.answer.Answer.TheVariants as answer
use Rattle.hb_types.specs.declared.change.LogItem.TheVariants as item
use Rattle.hb_types.specs.declared.request.Request.TheVariants as request
use Rattle.hb_types.specs.Lists.{Each, Has}
use Rattle.hb_types.specs.Put.{normal}
use Rattle.hb_disks.specs.LogRules.{LogOK}
use Rattle.hb_disks.specs.LogPlaces.{end_behind}
use Rattle.hb_disks.specs.StandsFor.{HasRoom}
use Rattle.hb_disks.specs.Redo.{Redone, redo}
use Rattle.hb_disks.specs.Says.{prepares}
use Rattle.hb_runs.specs.Server.{SState, now}
use Rattle.hb_runs.specs.ServerRuns.{Asked, Run, stopped_at}
use Rattle.hb_serverlaws.specs.Trails.{Ran, whole, writes_of}

-- a server's log stays right along its run
abbrev pub LogIsKept : Type 0
LogIsKept = (log : List LogItem) (place : ℕ) (trail : List Asked) (s : SState) → Ran log place trail s → LogOK [] (whole log s)

-- what a server knows in a run is redo of its whole log
abbrev pub NowIsRedo : Type 0
NowIsRedo = (log : List LogItem) (place : ℕ) (trail : List Asked) (s : SState) → Run (stopped_at (redo log) place) trail s → now s ≡ redo (whole log s)

-- a log with room for the ends of all its branches keeps it
abbrev pub RoomIsKept : Type 0
RoomIsKept =
    (log : List LogItem) (trail : List Asked) (s : SState) → LogOK [] log → HasRoom log → Run (stopped_at (redo log) (end_behind 0 log)) trail s
    → HasRoom (whole log s)

-- ---- what requests and answers have to do with the log

-- the request that a record is of, answered as done or faulted: then it is open whether the record stands
abbrev pub IsRecordOf : LogItem → Asked → Type 0
IsRecordOf (item.Prepare tx floor locks changes) a = (a.request ≡ request.Prepare tx) × ((a.answer ≡ answer.Vote floor) ⊎ (a.answer ≡ answer.Fault false))
IsRecordOf (item.Commit tx number) a = (a.request ≡ request.Commit tx number) × ((a.answer ≡ answer.Done) ⊎ (a.answer ≡ answer.Fault false))
IsRecordOf (item.Abort tx) a = (a.request ≡ request.Rollback tx) × ((a.answer ≡ answer.Done) ⊎ (a.answer ≡ answer.Fault false))
IsRecordOf _ a = ⊥

-- each record since the start is of a request in the trail
abbrev pub RecordsWereAsked : Type 0
RecordsWereAsked =
    (base : Redone) (place : ℕ) (trail : List Asked) (s : SState) → Run (stopped_at base place) trail s → Each (λ i. Has (IsRecordOf i) trail) s.log

abbrev pub voted_as : ℕ → ℕ → Asked
voted_as tx floor = record { request = request.Prepare (record { 0 = tx }); answer = answer.Vote (record { 0 = floor }) }

-- a vote that was answered stands in each later log, with what its transaction wrote
abbrev pub VotesStand : Type 0
VotesStand =
    (log : List LogItem) (place : ℕ) (front back : List Asked) (s : SState) (tx floor : ℕ) → Ran log place (front ++ voted_as tx floor ∷ back) s
    → Has (λ p. (p.tx ≡ tx) × (p.floor ≡ floor) × (p.changes ≡ normal (writes_of tx front))) (prepares (whole log s))

abbrev pub committed_as : ℕ → ℕ → Asked
committed_as tx n = record { request = request.Commit (record { 0 = tx }) (record { 0 = n }); answer = answer.Done }

-- and so does a commit
abbrev pub CommitsStand : Type 0
CommitsStand =
    (s t : SState) (tx n : ℕ) (more : List Asked) → Run s (committed_as tx n ∷ more) t → Has (λ i. i ≡ item.Commit (record { 0 = tx }) (record { 0 = n })) t.log
