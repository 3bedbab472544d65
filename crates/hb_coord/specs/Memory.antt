-- What the coordinator has in memory, and the state that it stands for.
use Rattle.std.specs.Prelude.{◌≡◌, ◌≢◌, ℕ, ◌==◌, if◌then◌else◌, List, Option, Some, None}
use Rattle.std.specs.List.{list_any}
use Rattle.std.specs.Ordering.{nat_cmp}
use Rattle.std.specs.BTreeMap.{get}
use Rattle.std.specs.BTreeSet.{contains}
use Rattle.hb_types.specs.declared.change.LogItem.{LogItem}
use Rattle.hb_types.specs.declared.request.Request.{Request}
use Rattle.hb_types.specs.declared.request.Request.TheVariants as request
use Rattle.hb_types.specs.Lists.{Each, Has}
use Rattle.hb_disks.specs.Says.{decisions}
use Rattle.hb_disks.specs.StandsFor.{greatest_upto}
use Rattle.hb_runs.specs.Coordinator.{CState, greatest_number}
use Rattle.hb_coord.specs.declared.kept.Recorded.{Recorded}
use Rattle.hb_coord.specs.declared.kept.Ledger.{Ledger}

abbrev pub number_of : Recorded → ℕ → Option ℕ
number_of r tx = get nat_cmp r.decided tx

-- how many active transactions the end of one takes away
abbrev pub active_ended : Ledger → Request → ℕ
active_ended l (request.Abort tx) = if contains nat_cmp l.active tx.0 then 1 else 0
active_ended l _ = 0

-- how many a request may add
abbrev pub active_begun : Request → ℕ
active_begun (request.Begin owner) = 1
active_begun _ = 0

-- what a log says of transactions
pub record Knows (log : List LogItem) (r : Recorded) : Type 0 where
  pub reserved : r.reserved ≡ greatest_upto log
  pub number : r.number ≡ greatest_number log
  pub decided : (tx n : ℕ) → number_of r tx ≡ Some n → Has (λ d. (d.tx ≡ tx) × (d.number ≡ n)) (decisions log)
  pub undecided : (tx : ℕ) → number_of r tx ≡ None → Each (λ d. d.tx ≢ tx) (decisions log)

-- what the coordinator knows is the state
pub record Reflects (k : CState) (l : Ledger) : Type 0 where
  pub knows : Knows k.log l.recorded
  pub next : l.next ≡ k.next
  pub active : (tx : ℕ) → contains nat_cmp l.active tx ≡ list_any (λ t. t == tx) k.active
