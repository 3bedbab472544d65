use Rattle.std.proofs.Common.{⊎_elim}
use Rattle.std.proofs.lemmas.Result.{on_ok_weaker}
use Rattle.hb_edge.specs.Runs.{then_leaves, weaker}
use Rattle.hb_disks.specs.WholeImage.{PointIs}
use Rattle.hb_whole.proofs.device.put_image.Goals as goal

pub returns-clause-stop : goal.returns-clause-stop
returns-clause-stop g c = λ p read told kept behind away in_time.
    let s = c.shut_spare.ensures in
    let w = c.write_image.ensures in
    let mid = c.in_ok-shut_spare.ensures.kept p read told kept in
    weaker c.args.clock.now (g.D.Disk.left c.args.disk.now) (g.D.Disk.left c.write_image.new.disk) _ (λ m image. PointIs image p) (λ m image le e. ⊎_elim (λ l. l.1) (λ r. r.1) e)
    (then_leaves c.args.clock.now c.shut_spare.new.clock (g.D.Disk.left c.args.disk.now) (g.D.Disk.left c.shut_spare.new.disk) (g.D.Disk.left c.write_image.new.disk) (λ m image. PointIs image p) (λ m image. PointIs image p)
    s.clock.0 (s.stop p kept in_time) (w.stop p mid behind away (s.in_time in_time)))

pub returns-clause-kept : goal.returns-clause-kept
returns-clause-kept g c =
    on_ok_weaker c.write_image.result (λ content. λ p read told kept behind away. c.write_image.ensures.kept p (c.in_ok-shut_spare.ensures.kept p read told kept) behind away) c.write_image.ensures.content
