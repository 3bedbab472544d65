use Rattle.std.proofs.Common.{ap, subst, sym}
use Rattle.hb_edge.specs.Fuses.{last_of}
use Rattle.hb_edge.specs.Images.{Cut}
use Rattle.hb_edge.specs.Stops.{Passes}
use Rattle.hb_edge.specs.ImageLaws.{cut_undone}
use Rattle.hb_edge.specs.Wrapping.{own_failure, passes_over, stands_later}
use Rattle.hb_edge.proofs.fused.FusedDisk.cut.Goals as goal

pub returns-else-passes-clause-cause : goal.returns-else-passes-clause-cause
returns-else-passes-clause-cause g c =
    let e = c.passes.ensures in
    own_failure _ _ _ _ _ (e.failed c.if-passes.false).2 (ap (λ d. g.D.Disk.faults d) e.inner)

pub returns-else-passes-clause-stop : goal.returns-else-passes-clause-stop
returns-else-passes-clause-stop g c =
    let e = c.passes.ensures in
    let fused = c.args.self.now in
    let left = g.D.Disk.left fused.inner in
    let last = last_of g.D.Disk.last fused in
    subst (λ d. Passes (Cut c.args.length) c.passes.new.clock last left (g.D.Disk.left d)) (sym e.inner)
    (passes_over (Cut c.args.length) c.passes.new.clock last left (stands_later left (g.D.Disk.last fused.inner) fused.failed_at (g.met.D.Disk.stands fused.inner) (g.met.D.Disk.stands_on fused.inner)) (cut_undone c.args.length))
