-- A server's run from a log that it has read, and what its trail says of each transaction.
use Rattle.std.specs.Prelude.{◌≢◌, ℕ, ◌==◌, if◌then◌else◌, List, [], ◌∷◌, ◌++◌, map, ⊤}
use Rattle.hb_types.specs.declared.answer.Answer.{Answer}
use Rattle.hb_types.specs.declared.answer.Answer.TheVariants as answer
use Rattle.hb_types.specs.declared.change.Change.{Change}
use Rattle.hb_types.specs.declared.change.LogItem.{LogItem}
use Rattle.hb_types.specs.declared.request.Request.{Request}
use Rattle.hb_types.specs.declared.request.Request.TheVariants as request
use Rattle.hb_types.specs.Lists.{Each}
use Rattle.hb_disks.specs.Redo.{redo}
use Rattle.hb_disks.specs.Says.{prepares}
use Rattle.hb_disks.specs.LogRules.{LogOK}
use Rattle.hb_runs.specs.Server.{SState}
use Rattle.hb_runs.specs.ServerRuns.{Asked, Run, stopped_at}

-- ---- each transaction is enlisted once

-- those that have enlisted, with a request more
abbrev pub noting : List ℕ → Request → List ℕ
noting seen (request.Enlist tx) = tx.0 ∷ seen
noting seen _ = seen

-- a transaction that enlists has not done so before
abbrev pub IsFirst : List ℕ → Request → Type 0
IsFirst seen (request.Enlist tx) = Each (λ t. t ≢ tx.0) seen
IsFirst seen _ = ⊤

-- no transaction enlists twice, and none of those seen before
abbrev pub EnlistsOnce : List ℕ → List Asked → Type 0
EnlistsOnce seen [] = ⊤
EnlistsOnce seen (a ∷ more) = IsFirst seen a.request × EnlistsOnce (noting seen a.request) more

-- the transactions that a log has votes of
abbrev pub voted_in : List LogItem → List ℕ
voted_in log = map (λ p. p.tx) (prepares log)

-- ---- the writes of a transaction

-- the change that a Write of the transaction made, if this is one
abbrev pub wrote : ℕ → Request → Answer → List Change
wrote tx (request.Write t c) answer.Done = if t.0 == tx then c ∷ [] else []
wrote tx _ _ = []

-- the changes that a transaction wrote, in their order
abbrev pub writes_of : ℕ → List Asked → List Change
writes_of tx [] = []
writes_of tx (a ∷ more) = wrote tx a.request a.answer ++ writes_of tx more

-- ---- a run

-- the whole log of a server that began with one
abbrev pub whole : List LogItem → SState → List LogItem
whole log s = log ++ s.log

-- a server that was started over a right log, asked this since, and is now in this state
pub record Ran (log : List LogItem) (place : ℕ) (trail : List Asked) (s : SState) : Type 0 where
  pub is_right : LogOK [] log
  pub run : Run (stopped_at (redo log) place) trail s
  pub once : EnlistsOnce (voted_in log) trail
