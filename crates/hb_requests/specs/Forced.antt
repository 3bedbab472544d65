-- Where a record is to be forced, and which requests answer otherwise.
use Rattle.std.specs.Prelude.{◌≡◌, ℕ, ◌<◌, List, ⊤}
use Rattle.hb_types.specs.declared.change.Stored.{Stored}
use Rattle.hb_types.specs.declared.names.Number.{Number}
use Rattle.hb_types.specs.declared.names.Tx.{Tx}
use Rattle.hb_types.specs.declared.answer.Answer.{Answer}
use Rattle.hb_types.specs.declared.answer.Answer.TheVariants as answer
use Rattle.hb_types.specs.declared.request.Request.{Request}
use Rattle.hb_types.specs.declared.request.Request.TheVariants as request
use Rattle.hb_runs.specs.Server.{SState, IsAlive, IsInDoubt}
use Rattle.hb_engine.specs.declared.engine.Engine.{Engine}
use Rattle.hb_engine.specs.Turned.{StandsFor, Turned}

-- a live branch is to vote
abbrev pub Votes : Engine → Tx → Type 0
Votes e tx = (rows : List Stored) (s : SState) → StandsFor e rows s → IsAlive s tx.0

-- a branch in doubt is to be committed with a number above its floor
abbrev pub Commits : Engine → Tx → Number → Type 0
Commits e tx number = (rows : List Stored) (s : SState) → StandsFor e rows s → (floor : ℕ) × IsInDoubt s tx.0 floor × (floor < number.0)

-- a branch in doubt is to be rolled back, and nothing is done yet
abbrev pub RollsBack : Engine → Engine → Tx → Type 0
RollsBack old new tx = (new ≡ old) × ((rows : List Stored) (s : SState) → StandsFor old rows s → (floor : ℕ) × IsInDoubt s tx.0 floor)

-- the requests for which the log or a disk is needed
abbrev pub Forces : Engine → Engine → Request → Type 0
Forces old new (request.Prepare tx) = (new ≡ old) × Votes old tx
Forces old new (request.Commit tx number) = (new ≡ old) × Commits old tx number
Forces old new (request.Rollback tx) = RollsBack old new tx
Forces old new request.Stop = new ≡ old
Forces old new _ = ⊥

-- beside these rows, every state that the engine stood for is led by this request, so answered, to one that it stands for now
abbrev pub LeadsAt : Engine → Engine → List Stored → Request → Answer → Type 0
LeadsAt old new rows q a = (s : SState) → StandsFor old rows s → Turned s q a (λ t. StandsFor new rows t)

-- so answered, the request has no record: no vote, commit or fault, and a branch that was given up had not voted
abbrev pub RecordsNone : Engine → Request → Answer → Type 0
RecordsNone e (request.Prepare tx) (answer.Vote floor) = ⊥
RecordsNone e (request.Prepare tx) (answer.Fault area) = ⊥
RecordsNone e (request.Commit tx number) answer.Done = ⊥
RecordsNone e (request.Commit tx number) (answer.Fault area) = ⊥
RecordsNone e (request.Rollback tx) answer.Done = (rows : List Stored) (s : SState) → StandsFor e rows s → IsAlive s tx.0
RecordsNone e (request.Rollback tx) (answer.Fault area) = ⊥
RecordsNone e request.SyncBegin (answer.Fault area) = ⊥
RecordsNone e request.SyncFlush (answer.Fault area) = ⊥
RecordsNone e request.SyncFinish (answer.Fault area) = ⊥
RecordsNone e request.Stop a = ⊥
RecordsNone e q a = ⊤
