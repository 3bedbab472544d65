use Rattle.std.proofs.Common.{◌≡◌, ◌+◌, ◌*◌, length, arith}
use Rattle.hb_system.proofs.Giving.{disks_count}
use Rattle.hb_system.specs.Giving.{AreDisksOf, IsLogOf}
use Rattle.hb_system.proofs.seating.close.Goals as goal

pub returns-clause-count : goal.returns-clause-count
returns-clause-count g c =
    let counted : length c.into_disks.result.items + 1 ≡ 2 * length c.args.nodes.items =
    disks_count (IsLogOf g.D.Disk.left g.F.Node.leaves) (AreDisksOf g.D.Disk.left g.S.Node.leaves) g.F.Node.named g.S.Node.named (λ f. g.met.F.OfLog.is_first f) (λ s. g.met.S.OfDisks.is_later s)
    c.args.nodes.items c.into_disks.result.items c.requires.numbered (omega (arith, c.requires.some)) c.into_disks.ensures in
    omega (arith, counted)
