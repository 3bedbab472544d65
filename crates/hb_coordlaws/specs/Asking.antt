-- What requests and answers have to do with decisions.
use Rattle.std.specs.Prelude.{◌≡◌, ◌<◌, ◌⊎◌, false, List}
use Rattle.hb_types.specs.declared.answer.Answer.TheVariants as answer
use Rattle.hb_types.specs.declared.request.Request.TheVariants as request
use Rattle.hb_types.specs.declared.request.Vote.{Vote}
use Rattle.hb_types.specs.Lists.{Each, Has, IsIn}
use Rattle.hb_disks.specs.Redo.{Decided}
use Rattle.hb_disks.specs.Says.{decisions}
use Rattle.hb_runs.specs.Coordinator.{CState, CRun, nodes_of}
use Rattle.hb_runs.specs.ServerRuns.{Asked}
use Rattle.hb_coordlaws.specs.Ascending.{given}

-- the Decide that a decision is of: answered with its number or faulted, with votes of its nodes and of lower floors
pub record IsDecideOf (d : Decided) (a : Asked) : Type 0 where
  pub votes : List Vote
  pub asked : a.request ≡ request.Decide (record { 0 = d.tx }) votes
  pub answered : (a.answer ≡ answer.Decided (record { 0 = d.number })) ⊎ (a.answer ≡ answer.Fault false)
  pub nodes : nodes_of votes ≡ d.nodes
  pub above : Each (λ v. v.floor.0 < d.number) votes

-- each decision was there before, or is of a Decide in the trail
abbrev pub DecisionsWereAsked : Type 0
DecisionsWereAsked = (k t : CState) (trail : List Asked) → CRun k trail t → Each (λ d. IsIn d (decisions k.log) ⊎ Has (IsDecideOf d) trail) (decisions t.log)

-- and its transaction was active before, or was given in the trail
abbrev pub DecidedWereGiven : Type 0
DecidedWereGiven =
    (k t : CState) (trail : List Asked) → CRun k trail t → Each (λ d. IsIn d (decisions k.log) ⊎ (IsIn d.tx k.active ⊎ IsIn d.tx (given trail))) (decisions t.log)
