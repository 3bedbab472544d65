use Rattle.std.proofs.Common.{◌≡◌, ◌<◌, length, take, true, subst, arith}
use Rattle.hb_disks.specs.StandsFor.{IsCoordinators}
use Rattle.hb_coord.specs.Standing.{items_of}
use Rattle.hb_coord.specs.Starts.{Takes}
use Rattle.hb_coord.proofs.Reading.{knows_next, own_next, strange_here}
use Rattle.hb_coord.proofs.start.read_all.Goals as goal

pub returns-in-Ok-false-clause-strange : goal.returns-in-Ok-false-clause-strange
returns-in-Ok-false-clause-strange c = λ place is.
    let inside : c.records.record-index < length c.args.records.now = omega arith in
    let other : IsCoordinators c.record-item.result.item → ⊥ = subst (Takes (items_of (take c.records.record-index c.args.records.now)) c.record-item.result.item c.take.new.recorded) c.in-Ok-false.field-0-test (c.in-Ok-false.ensures (items_of (take c.records.record-index c.args.records.now)) c.records.invariant.0) in
    let same : c.record-item.result.place ≡ place = cc in
    strange_here c.args.records.now c.records.record-index c.record-item.result place inside c.record-item.is c.records.invariant.1 other same

pub records-preserved : goal.records-preserved
records-preserved c =
    let inside : c.records.record-index < length c.args.records.now = omega arith in
    let step : Takes (items_of (take c.records.record-index c.args.records.now)) c.record-item.result.item c.take.new.recorded true = subst (Takes (items_of (take c.records.record-index c.args.records.now)) c.record-item.result.item c.take.new.recorded) c.in-Ok-true.field-0-test (c.in-Ok-true.ensures (items_of (take c.records.record-index c.args.records.now)) c.records.invariant.0) in (
      knows_next c.args.records.now c.records.record-index c.record-item.result c.take.new.recorded inside c.record-item.is step.1,
      own_next c.args.records.now c.records.record-index c.record-item.result inside c.record-item.is c.records.invariant.1 step.0,
    )
