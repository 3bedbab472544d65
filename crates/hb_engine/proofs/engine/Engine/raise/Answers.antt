use Rattle.std.proofs.Common.{◌≡◌, max, refl, arith}
use Rattle.hb_disks.specs.Redo.{Redone}
use Rattle.hb_engine.proofs.Restoring.{alike, raised, risen}
use Rattle.hb_engine.proofs.engine.Engine.raise.Goals as goal

pub returns-then-number-self : goal.returns-then-number-self
returns-then-number-self c = λ r has s up.
    let e = c.args.self.now in
    let is : c.args.number.0 ≡ max e.floor.0 c.args.number.0 = omega (arith, c.if-number-self.true) in
    let more : Redone = record { rows = r.rows; floor = max r.floor c.args.number.0; doubts = r.doubts } in
    alike e.slots e.locks c.args.number r.rows more (risen more) s (record { up = refl; no_live = refl; now_is = refl }) up
    (raised e.slots e.locks e.floor c.args.number r c.args.number.0 is (has (risen r) (record { up = refl; no_live = refl; now_is = refl })))

pub returns-else-number-self : goal.returns-else-number-self
returns-else-number-self c = λ r has s up.
    let e = c.args.self.now in
    let is : e.floor.0 ≡ max e.floor.0 c.args.number.0 = omega (arith, c.if-number-self.false) in
    let more : Redone = record { rows = r.rows; floor = max r.floor c.args.number.0; doubts = r.doubts } in
    alike e.slots e.locks e.floor r.rows more (risen more) s (record { up = refl; no_live = refl; now_is = refl }) up
    (raised e.slots e.locks e.floor e.floor r c.args.number.0 is (has (risen r) (record { up = refl; no_live = refl; now_is = refl })))
