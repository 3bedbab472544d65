-- A request of a server that changes nothing: its answer is right in each state that the server stands for.
use Rattle.std.specs.Prelude.{◌≡◌, ◌⊎◌, List}
use Rattle.hb_types.specs.declared.answer.Answer.{Answer}
use Rattle.hb_types.specs.declared.answer.Answer.TheVariants as answer
use Rattle.hb_types.specs.declared.change.Stored.{Stored}
use Rattle.hb_types.specs.declared.request.Request.{Request}
use Rattle.hb_runs.specs.Server.{SState}
use Rattle.hb_runs.specs.ServerRuns.{Turns}
use Rattle.hb_engine.specs.declared.engine.Engine.{Engine}
use Rattle.hb_engine.specs.Turned.{StandsFor}

-- the request, so answered, leads each state that the engine stands for beside these rows to itself
abbrev pub Shows : Engine → List Stored → Request → Answer → Type 0
Shows e rows q a = (s : SState) → StandsFor e rows s → Turns s (record { request = q; answer = a }) s

-- this, unless there was no memory
abbrev pub OrNoMemory : Answer → Answer → Type 0
OrNoMemory a wanted = (a ≡ wanted) ⊎ (a ≡ answer.NoMemory)
