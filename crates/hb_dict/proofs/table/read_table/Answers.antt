use Rattle.std.proofs.lemmas.Result.{err_from_is_err_and}
use Rattle.hb_types.specs.Rows.{IsRowOf}
use Rattle.hb_dict.proofs.TableSteps.{are_table, table_row_is, other_is_taken}
use Rattle.hb_dict.proofs.Tells.{same_error, table_tells}
use Rattle.hb_dict.proofs.table.read_table.Goals as goal

pub returns-in_err-values-clause-refused : goal.returns-in_err-values-clause-refused
returns-in_err-values-clause-refused c =
    let p = err_from_is_err_and c.from_residual.result c.from_residual.ensures.1 in
    rw (p.1, p.2) (λ is d a. c.in_err-values.ensures.refused (same_error _ _ is) _ a.spelled)

pub returns-in_err-table-clause-refused : goal.returns-in_err-table-clause-refused
returns-in_err-table-clause-refused c =
    let p = err_from_is_err_and c.from_residual-in_err-table.result c.from_residual-in_err-table.ensures.1 in
    let row : IsRowOf c.args.row.now c.as_slice.result.now = rw c.as_slice.ensures c.in_ok-values.ensures.values in
    rw (p.1, p.2) (λ is d a. c.in_err-table.ensures.refused (same_error _ _ is) d (are_table c.args.row.now c.as_slice.result.now d row a))

pub returns-then-is_taken-clause-told : goal.returns-then-is_taken-clause-told
returns-then-is_taken-clause-told c =
    let row : IsRowOf c.args.row.now c.as_slice.result.now = rw c.as_slice.ensures c.in_ok-values.ensures.values in
    table_tells c.args.row.now c.in_ok-table.table
    (table_row_is c.args.row.now c.as_slice.result.now c.in_ok-table.table row c.in_ok-table.ensures.table (c.is_taken.ensures.taken c.if-is_taken.true c.in_ok-table.ensures.table.sizes))

pub returns-clause-refused : goal.returns-clause-refused
returns-clause-refused c =
    let row : IsRowOf c.args.row.now c.as_slice.result.now = rw c.as_slice.ensures c.in_ok-values.ensures.values in
    λ is d a. c.is_taken.ensures.not_taken c.if-is_taken.false (other_is_taken c.args.row.now c.as_slice.result.now c.in_ok-table.table d row c.in_ok-table.ensures.table a)
