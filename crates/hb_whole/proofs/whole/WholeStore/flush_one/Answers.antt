use Rattle.hb_whole.proofs.Sealing.{still_left}
use Rattle.hb_whole.proofs.whole.WholeStore.flush_one.Goals as goal

pub returns-then-is_some-clause-stop : goal.returns-then-is_some-clause-stop
returns-then-is_some-clause-stop g c = λ p on in_time.
    still_left c.args.self.now.valid c.args.self.now.spare_open p (g.D.Disk.left c.args.disk.now) (g.D.Disk.last c.args.disk.now) c.args.clock.now (g.met.D.Disk.stands c.args.disk.now) on.each in_time

pub returns-in-Ok-None-clause-stop : goal.returns-in-Ok-None-clause-stop
returns-in-Ok-None-clause-stop g c = λ p on in_time.
    still_left c.args.self.now.valid c.args.self.now.spare_open p (g.D.Disk.left c.args.disk.now) (g.D.Disk.last c.args.disk.now) c.args.clock.now (g.met.D.Disk.stands c.args.disk.now) on.each in_time

pub returns-clause-stop : goal.returns-clause-stop
returns-clause-stop g c = λ p on in_time.
    still_left c.args.self.now.valid c.args.self.now.spare_open p (g.D.Disk.left c.args.disk.now) (g.D.Disk.last c.args.disk.now) c.args.clock.now (g.met.D.Disk.stands c.args.disk.now) on.each in_time
