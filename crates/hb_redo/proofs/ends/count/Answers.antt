use Rattle.std.proofs.Common.{◌≡◌, ◌+◌, ◌<◌, ◌≤◌, sym, subst, take, length, arith}
use Rattle.hb_redo.specs.Damage.{count_ends, items_of}
use Rattle.hb_redo.specs.Stages.{Counts, CountsEnds, EndIs, count_of}
use Rattle.hb_redo.proofs.Leaving.{count_few, counts_more, counts_same, items_few, items_taken}
use Rattle.hb_redo.proofs.ends.count.Goals as goal
use Rattle.hb_redo.proofs.ends.count.Goals.{in-Some+in_ok-add-in-Some, in-None}

pub add-requires : goal.add-requires
add-requires c =
    let front = items_of (take c.loop-record.record-index c.args.records.now) in
    let are : count_of c.loop-record.ends c.in-Some.tx.0 ≡ count_ends c.in-Some.tx.0 front = c.loop-record.invariant c.in-Some.tx.0 in
    let few : count_ends c.in-Some.tx.0 front ≤ length front = count_few c.in-Some.tx.0 front in
    let short : length front ≤ length c.args.records.now = items_few c.args.records.now c.loop-record.record-index in
    omega (arith, are, few, short)

pub loop-record-preserved : goal.loop-record-preserved
loop-record-preserved c =
    let records = c.args.records.now in
    let i = c.loop-record.record-index in
    let item = c.record-item.result in
    let inside : i < length records = omega arith in
    let taken = items_taken records i item inside c.record-item.is in
    elim c.match-ended_by.branch [
      | in-Some+in_ok-add-in-Some w ↦ subst (λ (e : Counts). CountsEnds e (items_of (take (i + 1) records))) (sym w.ends-is)
          (subst (CountsEnds w.add.new.ends) (sym taken) (counts_more c.loop-record.ends w.add.new.ends w.in-Some.tx.0 item.item (items_of (take i records)) w.in-Some.ensures c.loop-record.invariant w.in_ok-add-in-Some.ensures))
      | in-None w ↦ subst (λ (e : Counts). CountsEnds e (items_of (take (i + 1) records))) (sym w.ends-is)
          (subst (CountsEnds c.loop-record.ends) (sym taken) (counts_same c.loop-record.ends item.item (items_of (take i records)) (subst (EndIs item.item) w.in-None.is c.ended_by.ensures) c.loop-record.invariant))
    ]
