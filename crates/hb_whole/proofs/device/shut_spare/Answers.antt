use Rattle.std.proofs.Common.{Bool, false, sym, subst, Option, Some}
use Rattle.std.proofs.lemmas.Result.{on_ok_weaker}
use Rattle.hb_whole.specs.declared.valid.Valid.{Valid}
use Rattle.hb_whole.specs.Kept.{AreKept}
use Rattle.hb_whole.proofs.Sealing.{still_left}
use Rattle.hb_whole.proofs.device.shut_spare.Goals as goal

pub returns-in-Some-true-clause-kept : goal.returns-in-Some-true-clause-kept
returns-in-Some-true-clause-kept g c =
    on_ok_weaker c.close_gate.result (λ k. λ p read told kept.
    let known = subst (λ (o : Option Valid). AreKept (g.D.Disk.left c.args.disk.now (g.D.Disk.last c.args.disk.now)) o c.args.spare_open p) c.in-Some-true.is-0 kept in
    let opened = subst (λ (b : Bool). AreKept (g.D.Disk.left c.args.disk.now (g.D.Disk.last c.args.disk.now)) (Some c.in-Some-true.valid) b p) c.in-Some-true.is-1 known in
    subst (λ (o : Option Valid). AreKept (g.D.Disk.left c.close_gate.new.disk (g.D.Disk.last c.close_gate.new.disk)) o false p) (sym c.in-Some-true.is-0) (k p read told opened)) c.close_gate.ensures.kept

pub returns-in_default-clause-stop : goal.returns-in_default-clause-stop
returns-in_default-clause-stop g c = λ p kept in_time.
    still_left c.args.valid c.args.spare_open p (g.D.Disk.left c.args.disk.now) (g.D.Disk.last c.args.disk.now) c.args.clock.now (g.met.D.Disk.stands c.args.disk.now) kept in_time
