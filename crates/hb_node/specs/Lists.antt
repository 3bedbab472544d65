-- What was asked of each of several nodes.
use Rattle.std.specs.Prelude.{◌≡◌, ◌≢◌, ℕ, true, ◌⊎◌, IsTrue, List, [], ◌∷◌, ◌++◌, replicate}
use Rattle.hb_types.specs.declared.answer.Answer.{Answer}
use Rattle.hb_types.specs.declared.answer.Answer.TheVariants as answer
use Rattle.hb_types.specs.declared.names.NodeName.{NodeName}
use Rattle.hb_types.specs.declared.request.Request.{Request}
use Rattle.hb_types.specs.declared.request.Request.TheVariants as request
use Rattle.hb_types.specs.Calls.{may_pass}
use Rattle.hb_types.specs.Lists.{Each, IsIn}
use Rattle.hb_runs.specs.Kinds.{IsOfNode, tells_nothing}
use Rattle.hb_runs.specs.ServerRuns.{Asked}

-- for each node by its number what it was asked and answered
abbrev pub Lists : Type 0
Lists = ℕ → List Asked

abbrev pub asked : Request → Answer → Asked
asked q a = record { request = q; answer = a }

-- the list of the node that was asked: longer by the call, behind Waits that were answered NotMine and asked again; or as it was
-- where the call may have changed nothing
abbrev pub Grows : List Asked → List Asked → Request → Answer → Type 0
Grows old new q a =
    ((again : ℕ) × (new ≡ old ++ replicate again (asked q answer.NotMine) ++ asked q a ∷ []) × IsWaitWhere again q)
    ⊎ ((may_pass q a ≡ true) × (new ≡ old))
  where
    IsWaitWhere : ℕ → Request → Type 0
    IsWaitWhere again (request.Wait tx node path wanted holders) = Unit {0}
    IsWaitWhere again q = again ≡ 0

-- the list of a node that was not asked: as it was, or at mgr longer by what it was told of a node that stopped
abbrev pub Stays : ℕ → List Asked → List Asked → Type 0
Stays name old new = (new ≡ old) ⊎ ((name ≡ 10) × (node : NodeName) × (a : Answer) × (new ≡ old ++ asked (request.Halted node) a ∷ []))

-- The node that was asked has the call in its list, or the answer tells nothing.
pub record OneMore (old new : Lists) (node : ℕ) (q : Request) (a : Answer) : Type 0 where
  pub asked_one : Grows (old node) (new node) q a
  pub others : (name : ℕ) → name ≢ node → Stays name (old name) (new name)
  pub told : IsTrue (tells_nothing a) ⊎ IsIn (asked q a) (new node)

-- each of these calls is answered as the node of this number answers
abbrev pub AreOfNode : ℕ → List Asked → Type 0
AreOfNode node list = Each (λ a. IsOfNode node a.request a.answer) list

-- by calls one behind another, of each of which this is so
pub data Onward {N : Type 0} (goes : N → N → Type 0) (from : N) : N → Type 0 where
  here : Onward goes from from
  onward : (mid to : N) → Onward goes from mid → goes mid to → Onward goes from to
