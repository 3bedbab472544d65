use Rattle.std.proofs.Common.{[], ◌∷◌, ℕ, IfSome, max, ◌∙◌, ap, sym, subst, arith, Some}
use Rattle.std.specs.Option.{option_map}
use Rattle.std.proofs.lemmas.Result.{on_ok_weaker}
use Rattle.hb_edge.specs.Images.{Torn, written}
use Rattle.hb_edge.specs.Stops.{Only, Passes}
use Rattle.hb_whole.specs.Kept.{Keeps}
use Rattle.hb_whole.proofs.Sealing.{gate_closed, gate_one, gate_two}
use Rattle.hb_whole.proofs.device.close_gate.Goals as goal

pub returns-in_err-write_at-clause-stop : goal.returns-in_err-write_at-clause-stop
returns-in_err-write_at-clause-stop g c = λ p kept in_time.
    let w = c.write_at.ensures in
    (gate_one c.args.valid p _ _ _ (g.met.D.Disk.stands c.args.disk.now) kept in_time _ _ _ w.clock w.last
    (subst (λ (k : ℕ). Passes (Torn k 1) c.write_at.new.clock (g.D.Disk.last c.args.disk.now) (g.D.Disk.left c.args.disk.now) (g.D.Disk.left c.write_at.new.self)) c.spare.ensures w.stop)).leaves

pub returns-clause-stop : goal.returns-clause-stop
returns-clause-stop g c = λ p kept in_time.
    let w = c.write_at.ensures in
    let y = c.sync.ensures in
    (gate_two c.args.valid p _ _ _ (g.met.D.Disk.stands c.args.disk.now) kept in_time _ _ _ w.clock w.last
    (subst (λ (k : ℕ). Passes (Torn k 1) c.write_at.new.clock (g.D.Disk.last c.args.disk.now) (g.D.Disk.left c.args.disk.now) (g.D.Disk.left c.write_at.new.self)) c.spare.ensures w.stop)
    _ _ _ y.clock y.last y.stop).leaves

pub returns-clause-kept : goal.returns-clause-kept
returns-clause-kept g c =
    let w = c.write_at.ensures in
    let y = c.sync.ensures in
    on_ok_weaker c.sync.result (λ kept. λ p read told keeps image left.
    let is1 = c.in_ok-write_at.ensures.written ∙ ap (λ o. option_map (written c.spare.result (0 ∷ [])) o) told in
    let only = subst (λ o. IfSome o (Only (g.D.Disk.left c.sync.new.self) (max (g.D.Disk.last c.write_at.new.self) c.sync.new.clock))) is1 kept in
    let same = only (g.D.Disk.last c.sync.new.self) image (omega (arith, y.last)) left in
    let mine : Keeps (Some c.args.valid) _ p read = keeps read (subst (λ o. IfSome o (g.D.Disk.left c.args.disk.now (g.D.Disk.last c.args.disk.now))) told (g.met.D.Disk.as_read c.args.disk.now)) in
    subst (Keeps (Some c.args.valid) _ p) (sym (same ∙ ap (λ (k : ℕ). written k (0 ∷ []) read) c.spare.ensures)) (gate_closed c.args.valid p read mine)) y.kept
