-- When the decisions of the logs, run alone by their numbers, explain what was shown.
use Rattle.std.specs.Prelude.{List}
use Rattle.hb_types.specs.Lists.{Each}
use Rattle.hb_disks.specs.Images.{Logs, decided}
use Rattle.hb_disks.specs.Redo.{Decided}
use Rattle.hb_law.specs.Histories.{Event, Shown}
use Rattle.hb_law.specs.Transactions.{Txn}
use Rattle.hb_law.specs.ShownEnds.{AreFurther, ShowsEnds}
use Rattle.hb_law.specs.RunAlone.{EachStep}
use Rattle.hb_law.specs.Ordered.{InOrder}
use Rattle.hb_law.specs.Clean.{ShowsClean}

-- ---- the whole

-- the points that need no order in time
pub record ExplainedApart (base logs : Logs) (txns : List Txn) (lines : List Shown) (further : List Decided) : Type 0 where
  pub decisions : AreFurther base logs txns further
  pub ends : ShowsEnds logs txns lines further
  -- run alone; and what a turn tells complete or moved is so at its step
  pub run_alone : EachStep logs txns (decided base) further
  pub clean : Each (ShowsClean base logs) txns

-- a `run`, whose events are one history
pub record Explained (base logs : Logs) (txns : List Txn) (h : List Event) (lines : List Shown) : Type 0 where
  pub further : List Decided
  pub apart : ExplainedApart base logs txns lines further
  pub ordered : InOrder logs txns h
