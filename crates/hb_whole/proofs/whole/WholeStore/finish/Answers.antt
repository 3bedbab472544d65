use Rattle.std.proofs.Common.{inl}
use Rattle.hb_edge.specs.Runs.{weaker}
use Rattle.hb_disks.specs.WholeImage.{PointIs}
use Rattle.hb_whole.proofs.Sealing.{still_left}
use Rattle.hb_whole.proofs.whole.WholeStore.finish.Goals as goal

pub returns-in-None-clause-stop : goal.returns-in-None-clause-stop
returns-in-None-clause-stop g c = λ p mark on is in_time.
    weaker c.args.clock.now (g.D.Disk.left c.args.disk.now) (g.D.Disk.left c.args.disk.now) (λ m image. PointIs image p) _ (λ m image le at. inl at)
    (still_left c.args.self.now.valid c.args.self.now.spare_open p (g.D.Disk.left c.args.disk.now) (g.D.Disk.last c.args.disk.now) c.args.clock.now (g.met.D.Disk.stands c.args.disk.now) on.each in_time)

pub returns-in-Ok-clause-stop : goal.returns-in-Ok-clause-stop
returns-in-Ok-clause-stop g c = c.make_valid.ensures.stop

pub returns-in-Err-clause-stop : goal.returns-in-Err-clause-stop
returns-in-Err-clause-stop g c = c.make_valid.ensures.stop
