use Rattle.std.proofs.Common.{◌≡◌, ◌+◌, [], ◌∷◌, IfSome, max, ◌∙◌, ap, subst, arith}
use Rattle.std.specs.Option.{option_map}
use Rattle.std.proofs.lemmas.Result.{on_ok_weaker}
use Rattle.hb_edge.specs.Images.{written}
use Rattle.hb_edge.specs.Stops.{Only}
use Rattle.hb_log.proofs.Forcing.{one, two, three, four}
use Rattle.hb_log.proofs.force.force.Goals as goal

pub returns-in_err-write_at-clause-stop : goal.returns-in_err-write_at-clause-stop
returns-in_err-write_at-clause-stop g c = λ s told inside only in_time.
    let w = c.write_at.ensures in
    (one c.args.gate c.args.bytes.now s _ _ _ (g.met.D.Disk.stands c.args.disk.now) only in_time _ _ _ w.clock w.last w.stop).leaves

pub returns-in_err-sync-clause-stop : goal.returns-in_err-sync-clause-stop
returns-in_err-sync-clause-stop g c = λ s told inside only in_time.
    let w = c.write_at.ensures in
    let y = c.sync.ensures in
    (two c.args.gate c.args.bytes.now s _ _ _ (g.met.D.Disk.stands c.args.disk.now) only in_time _ _ _ w.clock w.last w.stop _ _ _ y.clock y.last y.stop).leaves

pub returns-in_err-write_at-2-clause-stop : goal.returns-in_err-write_at-2-clause-stop
returns-in_err-write_at-2-clause-stop g c = λ s told inside only in_time.
    let w = c.write_at.ensures in
    let y = c.sync.ensures in
    let v = c.write_at-2.ensures in
    let is = c.in_ok-write_at.ensures.written ∙ ap (λ o. option_map (written (c.args.gate + 1) c.args.bytes.now) o) told in
    let only2 = subst (λ o. IfSome o (Only (g.D.Disk.left c.sync.new.self) (max (g.D.Disk.last c.write_at.new.self) c.sync.new.clock))) is c.in_ok-sync.ensures.kept in
    (three c.args.gate c.args.bytes.now s _ _ _ (g.met.D.Disk.stands c.args.disk.now) only in_time _ _ _ w.clock w.last w.stop _ _ _ y.clock y.last y.stop only2 _ _ _ v.clock v.last v.stop).leaves

pub returns-clause-stop : goal.returns-clause-stop
returns-clause-stop g c = λ s told inside only in_time.
    let w = c.write_at.ensures in
    let y = c.sync.ensures in
    let v = c.write_at-2.ensures in
    let z = c.sync-2.ensures in
    let is = c.in_ok-write_at.ensures.written ∙ ap (λ o. option_map (written (c.args.gate + 1) c.args.bytes.now) o) told in
    let only2 = subst (λ o. IfSome o (Only (g.D.Disk.left c.sync.new.self) (max (g.D.Disk.last c.write_at.new.self) c.sync.new.clock))) is c.in_ok-sync.ensures.kept in
    (four c.args.gate c.args.bytes.now s _ _ _ (g.met.D.Disk.stands c.args.disk.now) only in_time _ _ _ w.clock w.last w.stop _ _ _ y.clock y.last y.stop only2 _ _ _ v.clock v.last v.stop _ _ _ z.clock z.last z.stop).leaves

pub returns-clause-kept : goal.returns-clause-kept
returns-clause-kept g c =
    let w = c.write_at.ensures in
    let y = c.sync.ensures in
    let v = c.write_at-2.ensures in
    let z = c.sync-2.ensures in
    on_ok_weaker c.sync-2.result (λ kept. λ s told in_time.
    let staged = written (c.args.gate + 1) c.args.bytes.now s in
    let is1 = c.in_ok-write_at.ensures.written ∙ ap (λ o. option_map (written (c.args.gate + 1) c.args.bytes.now) o) told in
    let is2 = c.in_ok-write_at-2.ensures.written ∙ ap (λ o. option_map (written c.args.gate (1 ∷ [])) o) (y.content ∙ is1) in
    let only = subst (λ o. IfSome o (Only (g.D.Disk.left c.sync-2.new.self) (max (g.D.Disk.last c.write_at-2.new.self) c.sync-2.new.clock))) is2 kept in
    let times : max (g.D.Disk.last c.write_at-2.new.self) c.sync-2.new.clock ≡ c.sync-2.new.clock = omega (arith, in_time, w.clock, w.last, y.clock, y.last, v.clock, v.last, z.clock) in
    subst (λ t. Only (g.D.Disk.left c.sync-2.new.self) t (written c.args.gate (1 ∷ []) staged)) times only) z.kept
