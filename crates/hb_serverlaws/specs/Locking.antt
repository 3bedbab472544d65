-- How the locks of branches stand along a run.
use Rattle.std.specs.Prelude.{◌≡◌, ◌≢◌, ◌⊎◌, ℕ, List, []}
use Rattle.hb_types.specs.declared.change.LogItem.{LogItem}
use Rattle.hb_types.specs.declared.names.Number.{Number}
use Rattle.hb_types.specs.declared.request.Request.TheVariants as request
use Rattle.hb_types.specs.Lists.{Each, Has, IsIn}
use Rattle.hb_disks.specs.LogRules.{LogOK, LocksAgree, AreClosed, AreCovered}
use Rattle.hb_disks.specs.Redo.{redo}
use Rattle.hb_runs.specs.Server.{Branch, SState, now, unended}
use Rattle.hb_runs.specs.ServerRuns.{Asked, Run, stopped_at}

-- the locks of branches that have not ended: those of two transactions agree, ancestors are held, and changes lie under X
pub record LocksStand (s : SState) : Type 0 where
  pub agree : (b c : Branch) → IsIn b (unended s) → IsIn c (unended s) → b.tx ≢ c.tx → LocksAgree b.locks c.locks
  pub closed : (b : Branch) → IsIn b (unended s) → AreClosed b.locks
  pub covered : (b : Branch) → IsIn b (unended s) → AreCovered b.locks b.own

-- in each state of a run the locks stand so
abbrev pub LocksAreKept : Type 0
LocksAreKept =
    (log : List LogItem) (place : ℕ) (trail : List Asked) (s : SState) → LogOK [] log → Run (stopped_at (redo log) place) trail s → LocksStand s

-- a request that ends a branch in doubt of this transaction, if it takes effect
abbrev pub MayEnd : ℕ → Asked → Type 0
MayEnd tx a = ((n : Number) × (a.request ≡ request.Commit (record { 0 = tx }) n)) ⊎ (a.request ≡ request.Rollback (record { 0 = tx }))

-- a branch in doubt stays so, with its locks and changes, through stops, faults and starts, until its transaction is committed or rolled back
abbrev pub DoubtsStay : Type 0
DoubtsStay = (s t : SState) (trail : List Asked) → Run s trail t → Each (λ p. IsIn p (now t).doubts ⊎ Has (MayEnd p.tx) trail) (now s).doubts
