-- What nodes did and callers asked, apart from what was shown: the premises of all parts.
use Rattle.std.specs.Prelude.{◌≤◌, List, length}
use Rattle.hb_types.specs.declared.trail.Call.{Call}
use Rattle.hb_types.specs.Lists.{Each}
use Rattle.hb_disks.specs.Images.{Logs}
use Rattle.hb_disks.specs.StandsFor.{AreLogs}
use Rattle.hb_law.specs.Composition.{AllObey, NodesRan, OperatorObeys}
use Rattle.hb_law.specs.Histories.{Merged, Trails}
pub use Rattle.hb_law.specs.Answering.{IsOfSystem, is_begin, tells_nothing}

-- nodes ran from right logs, and the callers' calls are those of the trails
pub record Callings (base logs : Logs) (trails : Trails) (lists : List (List Call)) : Type 0 where
  pub right : AreLogs base
  pub nodes : NodesRan base logs trails
  pub merged : Merged trails lists
  pub obey : AllObey lists
  pub operator : OperatorObeys lists
  pub system : Each (Each IsOfSystem) lists
  pub back_ends_few : (2 ≤ length base.servers) × (length base.servers ≤ 9)
