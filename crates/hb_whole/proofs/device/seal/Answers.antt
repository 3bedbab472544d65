use Rattle.std.proofs.Common.{◌+◌, [], ◌∷◌, ℕ, IfSome, max, ◌∙◌, ap, sym, subst, arith, Some, length}
use Rattle.std.specs.Option.{option_map}
use Rattle.std.proofs.lemmas.Result.{on_ok_weaker}
use Rattle.hb_edge.specs.Images.{Torn, written}
use Rattle.hb_edge.specs.Stops.{Only, Passes}
use Rattle.hb_whole.specs.Kept.{Keeps, spare_at}
use Rattle.hb_whole.proofs.Sealing.{one, two, three, four, sealed}
use Rattle.hb_whole.proofs.device.seal.Goals as goal

pub returns-in_err-write_at-clause-stop : goal.returns-in_err-write_at-clause-stop
returns-in_err-write_at-clause-stop g c = λ p q next read told kept ready fits is in_time.
    let w = c.write_at.ensures in
    let mine : Keeps c.args.valid _ p read = kept read (subst (λ o. IfSome o (g.D.Disk.left c.args.disk.now (g.D.Disk.last c.args.disk.now))) told (g.met.D.Disk.as_read c.args.disk.now)) in
    let w_stop = subst (λ (k : ℕ). Passes (Torn (k + 1) (length c.args.bytes.now)) c.write_at.new.clock (g.D.Disk.last c.args.disk.now) (g.D.Disk.left c.args.disk.now) (g.D.Disk.left c.write_at.new.self)) c.spare-gate.ensures w.stop in
    (one c.args.valid p q next read c.args.bytes.now _ _ _ (g.met.D.Disk.stands c.args.disk.now) kept ready fits is mine in_time _ _ _ w.clock w.last w_stop).leaves

pub returns-in_err-sync-clause-stop : goal.returns-in_err-sync-clause-stop
returns-in_err-sync-clause-stop g c = λ p q next read told kept ready fits is in_time.
    let w = c.write_at.ensures in
    let y = c.sync.ensures in
    let mine : Keeps c.args.valid _ p read = kept read (subst (λ o. IfSome o (g.D.Disk.left c.args.disk.now (g.D.Disk.last c.args.disk.now))) told (g.met.D.Disk.as_read c.args.disk.now)) in
    let w_stop = subst (λ (k : ℕ). Passes (Torn (k + 1) (length c.args.bytes.now)) c.write_at.new.clock (g.D.Disk.last c.args.disk.now) (g.D.Disk.left c.args.disk.now) (g.D.Disk.left c.write_at.new.self)) c.spare-gate.ensures w.stop in
    (two c.args.valid p q next read c.args.bytes.now _ _ _ (g.met.D.Disk.stands c.args.disk.now) kept ready fits is mine in_time _ _ _ w.clock w.last w_stop _ _ _ y.clock y.last y.stop).leaves

pub returns-in_err-write_at-2-clause-stop : goal.returns-in_err-write_at-2-clause-stop
returns-in_err-write_at-2-clause-stop g c = λ p q next read told kept ready fits is in_time.
    let w = c.write_at.ensures in
    let y = c.sync.ensures in
    let v = c.write_at-2.ensures in
    let mine : Keeps c.args.valid _ p read = kept read (subst (λ o. IfSome o (g.D.Disk.left c.args.disk.now (g.D.Disk.last c.args.disk.now))) told (g.met.D.Disk.as_read c.args.disk.now)) in
    let w_stop = subst (λ (k : ℕ). Passes (Torn (k + 1) (length c.args.bytes.now)) c.write_at.new.clock (g.D.Disk.last c.args.disk.now) (g.D.Disk.left c.args.disk.now) (g.D.Disk.left c.write_at.new.self)) c.spare-gate.ensures w.stop in
    let v_stop = subst (λ (k : ℕ). Passes (Torn k 1) c.write_at-2.new.clock (g.D.Disk.last c.sync.new.self) (g.D.Disk.left c.sync.new.self) (g.D.Disk.left c.write_at-2.new.self)) c.spare-gate.ensures v.stop in
    let is1 = c.in_ok-write_at.ensures.written ∙ ap (λ o. option_map (written (c.spare-gate.result + 1) c.args.bytes.now) o) told ∙ ap (λ (k : ℕ). Some (written (k + 1) c.args.bytes.now read)) c.spare-gate.ensures in
    let only2 = subst (λ o. IfSome o (Only (g.D.Disk.left c.sync.new.self) (max (g.D.Disk.last c.write_at.new.self) c.sync.new.clock))) is1 c.in_ok-sync.ensures.kept in
    (three c.args.valid p q next read c.args.bytes.now _ _ _ (g.met.D.Disk.stands c.args.disk.now) kept ready fits is mine in_time _ _ _ w.clock w.last w_stop _ _ _ y.clock y.last y.stop only2 _ _ _ v.clock v.last v_stop).leaves

pub returns-clause-stop : goal.returns-clause-stop
returns-clause-stop g c = λ p q next read told kept ready fits is in_time.
    let w = c.write_at.ensures in
    let y = c.sync.ensures in
    let v = c.write_at-2.ensures in
    let z = c.sync-2.ensures in
    let mine : Keeps c.args.valid _ p read = kept read (subst (λ o. IfSome o (g.D.Disk.left c.args.disk.now (g.D.Disk.last c.args.disk.now))) told (g.met.D.Disk.as_read c.args.disk.now)) in
    let w_stop = subst (λ (k : ℕ). Passes (Torn (k + 1) (length c.args.bytes.now)) c.write_at.new.clock (g.D.Disk.last c.args.disk.now) (g.D.Disk.left c.args.disk.now) (g.D.Disk.left c.write_at.new.self)) c.spare-gate.ensures w.stop in
    let v_stop = subst (λ (k : ℕ). Passes (Torn k 1) c.write_at-2.new.clock (g.D.Disk.last c.sync.new.self) (g.D.Disk.left c.sync.new.self) (g.D.Disk.left c.write_at-2.new.self)) c.spare-gate.ensures v.stop in
    let is1 = c.in_ok-write_at.ensures.written ∙ ap (λ o. option_map (written (c.spare-gate.result + 1) c.args.bytes.now) o) told ∙ ap (λ (k : ℕ). Some (written (k + 1) c.args.bytes.now read)) c.spare-gate.ensures in
    let only2 = subst (λ o. IfSome o (Only (g.D.Disk.left c.sync.new.self) (max (g.D.Disk.last c.write_at.new.self) c.sync.new.clock))) is1 c.in_ok-sync.ensures.kept in
    (four c.args.valid p q next read c.args.bytes.now _ _ _ (g.met.D.Disk.stands c.args.disk.now) kept ready fits is mine in_time _ _ _ w.clock w.last w_stop _ _ _ y.clock y.last y.stop only2 _ _ _ v.clock v.last v_stop
    _ _ _ z.clock z.last z.stop).leaves

pub returns-clause-kept : goal.returns-clause-kept
returns-clause-kept g c =
    let y = c.sync.ensures in
    let z = c.sync-2.ensures in
    on_ok_weaker c.sync-2.result (λ only. λ p q next read told kept ready fits is image left.
    let mine : Keeps c.args.valid _ p read = kept read (subst (λ o. IfSome o (g.D.Disk.left c.args.disk.now (g.D.Disk.last c.args.disk.now))) told (g.met.D.Disk.as_read c.args.disk.now)) in
    let is1 = c.in_ok-write_at.ensures.written ∙ ap (λ o. option_map (written (c.spare-gate.result + 1) c.args.bytes.now) o) told ∙ ap (λ (k : ℕ). Some (written (k + 1) c.args.bytes.now read)) c.spare-gate.ensures in
    let mid = written (spare_at c.args.valid + 1) c.args.bytes.now read in
    let is2 = c.in_ok-write_at-2.ensures.written ∙ ap (λ o. option_map (written c.spare-gate.result (1 ∷ [])) o) (y.content ∙ is1) ∙ ap (λ (k : ℕ). Some (written k (1 ∷ []) mid)) c.spare-gate.ensures in
    let same = subst (λ o. IfSome o (Only (g.D.Disk.left c.sync-2.new.self) (max (g.D.Disk.last c.write_at-2.new.self) c.sync-2.new.clock))) is2 only (g.D.Disk.last c.sync-2.new.self) image (omega (arith, z.last)) left in
    subst (Keeps _ _ _) (sym same) (sealed c.args.valid p q next read c.args.bytes.now (g.D.Disk.left c.args.disk.now) (g.D.Disk.last c.args.disk.now) 0 (g.met.D.Disk.stands c.args.disk.now) kept ready fits is mine)) z.kept
