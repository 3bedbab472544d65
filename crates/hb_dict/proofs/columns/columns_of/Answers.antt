use Rattle.std.proofs.lemmas.Result.{err_from_is_err_and}
use Rattle.hb_dict.proofs.ColumnSteps.{read_none, read_more, read_all, none_left}
use Rattle.hb_dict.proofs.Tells.{same_error}
use Rattle.hb_dict.proofs.columns.columns_of.Goals as goal

pub loop-rest-init : goal.loop-rest-init
loop-rest-init c = rw c.new-columns.ensures (read_none c.args.values.now)

pub loop-rest-preserved : goal.loop-rest-preserved
loop-rest-preserved c =
    read_more c.args.values.now c.loop-rest.columns _ c.loop-rest.rest.now c.in_ok-column.after.now c.in_ok-column.column c.loop-rest.invariant c.in_ok-column.ensures.column c.in_ok-column.ensures.small c.in_ok-push.ensures.ok

pub returns-in_err-column-clause-refused : goal.returns-in_err-column-clause-refused
returns-in_err-column-clause-refused c =
    let p = err_from_is_err_and c.from_residual.result c.from_residual.ensures.1 in
    rw (p.1, p.2) (λ is. none_left c.args.values.now c.loop-rest.columns c.loop-rest.rest.now c.loop-rest.invariant c.loop-rest-test.true (c.in_err-column.ensures.refused (same_error _ _ is)))

pub returns-clause-columns : goal.returns-clause-columns
returns-clause-columns c = read_all c.args.values.now c.loop-rest.columns c.loop-rest.rest.now c.loop-rest.invariant c.loop-rest-test.false
