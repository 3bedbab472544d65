use Rattle.std.proofs.Common.{◌≡◌, inl, Bool, Some, ◌∙◌, subst, rules}
use Rattle.std.specs.Prelude.{is_some}
use Rattle.hb_edge.specs.Runs.{weaker}
use Rattle.hb_store.specs.Meanings.{next_point}
use Rattle.hb_disks.specs.WholeImage.{PointIs}
use Rattle.hb_whole.specs.Kept.{Keeps}
use Rattle.hb_whole.specs.Store.{rows_in}
use Rattle.hb_whole.proofs.Making.{all_ready, is_told, none_staged}
use Rattle.hb_whole.proofs.Sealing.{still_left}
use Rattle.hb_whole.proofs.whole.Whole.make_valid.Goals as goal

pub returns-in-Err-clause-stop : goal.returns-in-Err-clause-stop
returns-in-Err-clause-stop g c = λ p mark on is in_time.
    weaker c.args.clock.now (g.D.Disk.left c.args.disk.now) (g.D.Disk.left c.args.disk.now) (λ m image. PointIs image p) _ (λ m image le at. inl at)
    (still_left c.args.self.now.valid c.args.self.now.spare_open p (g.D.Disk.left c.args.disk.now) (g.D.Disk.last c.args.disk.now) c.args.clock.now (g.met.D.Disk.stands c.args.disk.now) on.each in_time)

pub returns-in-Ok-seal-clause-stop : goal.returns-in-Ok-seal-clause-stop
returns-in-Ok-seal-clause-stop g c = λ p mark on is in_time.
    let r = all_ready c.args.self.now c.args.point mark c.args.next p (g.D.Disk.content c.args.disk.now) (g.D.Disk.left c.args.disk.now (g.D.Disk.last c.args.disk.now)) c.deref.result.now c.requires.begun is c.requires.written (c.deref.ensures.value ∙ c.in-Ok.ensures) (g.met.D.Disk.as_read c.args.disk.now) on in
    c.seal.ensures.stop p (next_point p mark (rows_in c.args.self.now)) c.args.next on.read on.told r.kept r.ready r.fitting r.text in_time

pub returns-clause-stop : goal.returns-clause-stop
returns-clause-stop g c = λ p mark on is in_time.
    let r = all_ready c.args.self.now c.args.point mark c.args.next p (g.D.Disk.content c.args.disk.now) (g.D.Disk.left c.args.disk.now (g.D.Disk.last c.args.disk.now)) c.deref.result.now c.requires.begun is c.requires.written (c.deref.ensures.value ∙ c.in-Ok.ensures) (g.met.D.Disk.as_read c.args.disk.now) on in
    c.seal.ensures.stop p (next_point p mark (rows_in c.args.self.now)) c.args.next on.read on.told r.kept r.ready r.fitting r.text in_time

pub returns-in-Ok-seal-clause-goes_on : goal.returns-in-Ok-seal-clause-goes_on
returns-in-Ok-seal-clause-goes_on g c = λ p on.
    let r = all_ready c.args.self.now c.args.point c.args.point c.args.next p (g.D.Disk.content c.args.disk.now) (g.D.Disk.left c.args.disk.now (g.D.Disk.last c.args.disk.now)) c.deref.result.now c.requires.begun c.requires.begun c.requires.written (c.deref.ensures.value ∙ c.in-Ok.ensures) (g.met.D.Disk.as_read c.args.disk.now) on in
    let told = is_told (g.D.Disk.content c.args.disk.now) (g.D.Disk.content c.seal.new.disk) on.read on.told c.seal.ensures.told in
    let opened : is_some c.args.self.now.valid ≡ c.is_some-self.result = search rules in
    let q = next_point p c.args.point (rows_in c.args.self.now) in
    record {
      read = told.0;
      told = told.1;
      stands = none_staged _ _ _ told.0;
      each = λ image left. subst (λ (b : Bool). Keeps (Some c.args.next) b (Some q) image) opened (c.in-Ok-seal.ensures.kept p q c.args.next on.read on.told r.kept r.ready r.fitting r.text image left);
    }
