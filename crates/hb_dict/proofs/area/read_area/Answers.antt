use Rattle.std.proofs.lemmas.Result.{err_from_is_err_and}
use Rattle.hb_types.specs.Rows.{IsRowOf}
use Rattle.hb_dict.proofs.Tells.{one_row, area_told, same_error}
use Rattle.hb_dict.proofs.area.read_area.Goals as goal

pub returns-in_err-values-clause-refused : goal.returns-in_err-values-clause-refused
returns-in_err-values-clause-refused c =
    let p = err_from_is_err_and c.from_residual.result c.from_residual.ensures.1 in
    rw (p.1, p.2) (λ is d a. c.in_err-values.ensures.refused (same_error _ _ is) _ a.spelled)

pub returns-clause-told : goal.returns-clause-told
returns-clause-told c =
    let row : IsRowOf c.args.row.now c.as_slice.result.now = rw c.as_slice.ensures c.in_ok-values.ensures.values in
    area_told c.args.row.now c.as_slice.result.now c.area_of.result row c.area_of.ensures.area

pub returns-clause-refused : goal.returns-clause-refused
returns-clause-refused c =
    let row : IsRowOf c.args.row.now c.as_slice.result.now = rw c.as_slice.ensures c.in_ok-values.ensures.values in
    λ is d a. c.area_of.ensures.refused is d a.number (one_row c.args.row.now c.as_slice.result.now _ row a.spelled)
