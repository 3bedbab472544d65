-- What stands in order at the coordinator, along each run.
use Rattle.std.specs.Prelude.{ℕ, ◌≤◌, ◌<◌, ◌⊎◌, false, List, [], ◌∷◌}
use Rattle.std.specs.Ordering.{nat_cmp}
use Rattle.hb_types.specs.declared.answer.Answer.TheVariants as answer
use Rattle.hb_types.specs.declared.change.LogItem.{LogItem}
use Rattle.hb_types.specs.declared.names.Owner.{Owner}
use Rattle.hb_types.specs.declared.request.Request.TheVariants as request
use Rattle.hb_types.specs.declared.request.Vote.{Vote}
use Rattle.hb_types.specs.Lists.{Ascends, Each}
use Rattle.hb_disks.specs.Says.{decisions, uptos}
use Rattle.hb_disks.specs.StandsFor.{AreDecisions, AllReserved, HasRoom, IsCoordinators, greatest_upto}
use Rattle.hb_runs.specs.Coordinator.{CState, CRun, IsDecided, IsUndecided, next_number, greatest_number, stopped_at}
use Rattle.hb_runs.specs.ServerRuns.{Asked}
use Rattle.hb_coordlaws.specs.Finality.{IsReserved}

-- Numbers and reservations ascend, each transaction is decided once, was given and reserved, and is active only while undecided.
pub record IsOrdered (k : CState) : Type 0 where
  pub once : AreDecisions (decisions k.log)
  pub reservations : Ascends nat_cmp (uptos k.log)
  pub is_reserved : IsReserved k
  pub given : Each (λ d. d.tx < k.next) (decisions k.log)
  pub active : Each (λ tx. (tx < k.next) × IsUndecided k tx) k.active

-- a stopped coordinator stands in order where its log does
abbrev pub StoppedIsOrdered : Type 0
StoppedIsOrdered =
    (log : List LogItem) → AreDecisions (decisions log) → Ascends nat_cmp (uptos log) → Each (λ d. d.tx ≤ greatest_upto log) (decisions log)
    → IsOrdered (stopped_at log)

-- order is kept through each run, stops, starts and faults among its steps
abbrev pub OrderIsKept : Type 0
OrderIsKept = (k t : CState) (trail : List Asked) → IsOrdered k → CRun k trail t → IsOrdered t

-- the coordinator's log has its own records alone, of transactions that were reserved, and has room
pub record IsOfCoordinator (log : List LogItem) : Type 0 where
  pub own : Each IsCoordinators log
  pub reserved : AllReserved (greatest_upto log) log
  pub room : HasRoom log

-- and stays so
abbrev pub LogIsKept : Type 0
LogIsKept = (k t : CState) (trail : List Asked) → IsOrdered k → IsOfCoordinator k.log → CRun k trail t → IsOfCoordinator t.log

-- ---- answers that later logs keep

abbrev pub begun_as : Owner → ℕ → Asked
begun_as owner tx = record { request = request.Begin owner; answer = answer.Begun (record { 0 = tx }) }

-- a transaction that was given stays reserved
abbrev pub GivenIsReserved : Type 0
GivenIsReserved = (k t : CState) (owner : Owner) (tx : ℕ) (more : List Asked) → CRun k (begun_as owner tx ∷ more) t → tx ≤ greatest_upto t.log

abbrev pub decided_as : ℕ → List Vote → ℕ → Asked
decided_as tx votes n = record { request = request.Decide (record { 0 = tx }) votes; answer = answer.Decided (record { 0 = n }) }

-- a Decide that was answered is above the floors of its votes and all numbers before, and stands in each later log
abbrev pub DecisionStands : Type 0
DecisionStands =
    (k t : CState) (tx n : ℕ) (votes : List Vote) (more : List Asked) → CRun k (decided_as tx votes n ∷ more) t
    → IsDecided t tx n × (greatest_number k.log < n) × Each (λ v. v.floor.0 < n) votes

abbrev pub faulted_decide : ℕ → List Vote → Asked
faulted_decide tx votes = record { request = request.Decide (record { 0 = tx }) votes; answer = answer.Fault false }

-- a Decide that faulted is decided, with the number that it would have had, or is not, and stays so
abbrev pub FaultedIsFinal : Type 0
FaultedIsFinal =
    (k u t : CState) (tx : ℕ) (votes : List Vote) (more : List Asked) → IsOrdered k → CRun k (faulted_decide tx votes ∷ []) u → CRun u more t
    → (IsDecided u tx (next_number k votes) × IsDecided t tx (next_number k votes)) ⊎ (IsUndecided u tx × IsUndecided t tx)
