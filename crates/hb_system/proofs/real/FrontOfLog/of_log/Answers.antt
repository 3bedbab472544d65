use Rattle.std.proofs.Common.{[]}
use Rattle.hb_coord.specs.Standing.{IsLog}
use Rattle.hb_system.proofs.FreshFront.{empty_log, fresh_each, fresh_told}
use Rattle.hb_system.proofs.real.FrontOfLog.of_log.Goals as goal

pub returns-clause-explained : goal.returns-clause-explained
returns-clause-explained g c = λ fresh.
    c.new.ensures.explained [] (fresh_told g.D.Disk.content g.D.Disk.left g.D.Disk.last c.args.log fresh)
    (fresh_each g.D.Disk.content g.D.Disk.left g.D.Disk.last c.args.log fresh (λ image. IsLog image []) empty_log)
