use Rattle.std.proofs.Common.{ap}
use Rattle.hb_edge.specs.Wrapping.{own_failure}
use Rattle.hb_edge.proofs.fused.FusedDisk.length.Goals as goal

pub returns-else-passes-clause-cause : goal.returns-else-passes-clause-cause
returns-else-passes-clause-cause g c =
    let e = c.passes.ensures in
    own_failure _ _ _ _ _ (e.failed c.if-passes.false).2 (ap (λ d. g.D.Disk.faults d) e.inner)
