-- The law of one thread of steps: what is explained apart from time is explained in time.
use Rattle.std.proofs.Common.{List}
use Rattle.hb_disks.specs.Disks.{written}
use Rattle.hb_law.specs.Composition.{Together, World, composition, lists_of}
use Rattle.hb_law.specs.Explained.{Explained}
use Rattle.hb_law.specs.Histories.{Event, History}
use Rattle.hb_law.specs.InTime.{InItsOrder}
use Rattle.hb_coordlaws.specs.Ascending.{DecisionsGrow}
use Rattle.hb_ends.proofs.Shown.{Laws}
use Rattle.hb_intime.proofs.Beginning.{greater}

pub explained : (laws : Laws) (grow : DecisionsGrow) → composition written → (w : World) (h : List Event) (g : Together written w) → History h w.trails (lists_of w) w.lines → InItsOrder h w.lists
    → Explained w.base w.logs w.txns h w.lines
explained laws grow composed w h g hist order =
    let c = composed w g in
    record {
      further = c.1.0;
      apart = c.1.1;
      ordered = λ a b e shown start m n t i more parts shows known items dec begin.
          greater laws grow w c.1.0 g c.0.1.are_logs c.1.1.decisions.begins h hist order t known a b e shown start m n i more parts shows items dec begin;
    }
