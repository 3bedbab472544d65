-- What an Outcome was answered is final.
use Rattle.std.specs.Prelude.{ℕ, ◌+◌, ◌≤◌, List, ◌∷◌}
use Rattle.hb_types.specs.declared.answer.Answer.TheVariants as answer
use Rattle.hb_types.specs.declared.request.Request.TheVariants as request
use Rattle.hb_disks.specs.StandsFor.{greatest_upto}
use Rattle.hb_runs.specs.Coordinator.{CState, CRun, IsDecided, IsUndecided}
use Rattle.hb_runs.specs.ServerRuns.{Asked}

-- no transaction is given that was not reserved
abbrev pub IsReserved : CState → Type 0
IsReserved k = k.next ≤ greatest_upto k.log + 1

abbrev pub aborted_outcome : ℕ → Asked
aborted_outcome tx = record { request = request.Outcome (record { 0 = tx }); answer = answer.Aborted }

abbrev pub decided_outcome : ℕ → ℕ → Asked
decided_outcome tx n = record { request = request.Outcome (record { 0 = tx }); answer = answer.Decided (record { 0 = n }) }

-- a transaction of which an Outcome was answered Aborted is decided in no later log
abbrev pub AbortedStays : Type 0
AbortedStays = (k t : CState) (tx : ℕ) (more : List Asked) → IsReserved k → CRun k (aborted_outcome tx ∷ more) t → IsUndecided t tx

-- and one of which it was answered Decided is decided with that number in each later log
abbrev pub DecidedStays : Type 0
DecidedStays = (k t : CState) (tx n : ℕ) (more : List Asked) → CRun k (decided_outcome tx n ∷ more) t → IsDecided t tx n
