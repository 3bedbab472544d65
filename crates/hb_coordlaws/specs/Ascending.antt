-- Laws of the coordinator's runs.
use Rattle.std.specs.Prelude.{◌≡◌, ℕ, ◌+◌, ◌≤◌, ◌<◌, List, ◌++◌, filter_map, Option, Some, None}
use Rattle.std.specs.Ordering.{nat_cmp}
use Rattle.hb_types.specs.declared.answer.Answer.{Answer}
use Rattle.hb_types.specs.declared.answer.Answer.TheVariants as answer
use Rattle.hb_types.specs.declared.request.Request.{Request}
use Rattle.hb_types.specs.declared.request.Request.TheVariants as request
use Rattle.hb_types.specs.Lists.{Ascends, Each}
use Rattle.hb_disks.specs.Redo.{Decided}
use Rattle.hb_disks.specs.Says.{decisions}
use Rattle.hb_disks.specs.StandsFor.{greatest_upto}
use Rattle.hb_runs.specs.Coordinator.{CState, CRun, greatest_number}
use Rattle.hb_runs.specs.ServerRuns.{Asked}

-- the transaction that a Begin was answered
abbrev pub given_by : Request → Answer → Option ℕ
given_by (request.Begin owner) a = begun_in a
  where
    begun_in : Answer → Option ℕ
    begun_in (answer.Begun tx) = Some tx.0
    begun_in _ = None
given_by _ a = None

abbrev pub given : List Asked → List ℕ
given trail = filter_map (λ (a : Asked). given_by a.request a.answer) trail

-- the transactions that are given ascend, so that none is given twice, over stops and starts
abbrev pub TransactionsAscend : Type 0
TransactionsAscend = (k t : CState) (trail : List Asked) → k.next ≤ greatest_upto k.log + 1 → CRun k trail t → Ascends nat_cmp (given trail)

-- the decisions of a log stay, and those behind them have numbers that ascend from the greatest before
abbrev pub DecisionsGrow : Type 0
DecisionsGrow =
    (k t : CState) (trail : List Asked) → CRun k trail t
    → (more : List Decided) × (decisions t.log ≡ decisions k.log ++ more) × Each (λ d. greatest_number k.log < d.number) more × Ascends (λ a b. nat_cmp a.number b.number) more
