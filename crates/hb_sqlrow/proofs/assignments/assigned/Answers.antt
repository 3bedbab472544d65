use Rattle.std.proofs.lemmas.Result.{err_from_is_err_and}
use Rattle.hb_sqlrow.proofs.Assigning.{assigns_more, refused_at}
use Rattle.hb_sqlrow.proofs.assignments.assigned.Goals as goal

pub returns-in_err-value-clause-refused : goal.returns-in_err-value-clause-refused
returns-in_err-value-clause-refused c =
    let p = err_from_is_err_and c.from_residual-in_err-value.result c.from_residual-in_err-value.ensures.1 in
    rw (p.1, p.2)
    (refused_at c.args.table.now c.args.sets.now c.args.row.now c.as_slice.result.now c.loop-set.set-index c.set-item.result c.in_err-value.field-0.0
    c.loop-set-test.true c.set-item.is c.as_slice.ensures c.loop-set.invariant.accepted c.in_err-value.ensures.refused)

pub loop-set-preserved : goal.loop-set-preserved
loop-set-preserved c =
    assigns_more c.args.table.now c.args.sets.now c.args.row.now c.as_slice.result.now c.loop-set.new c.put_value.new.row c.loop-set.set-index c.set-item.result c.in_ok-value.value _ _ c.place_of.result
    c.loop-set-test.true c.set-item.is c.as_slice.ensures c.in_ok-value.ensures.value c.in_ok-value.ensures.accepted c.as_slice-in-loop-set.ensures c.as_slice-in-loop-set-2.ensures c.place_of.ensures c.put_value.ensures c.loop-set.invariant
