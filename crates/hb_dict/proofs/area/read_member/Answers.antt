use Rattle.std.proofs.lemmas.Result.{err_from_is_err_and}
use Rattle.hb_dict.proofs.Tells.{same_error}
use Rattle.hb_dict.proofs.area.read_member.Goals as goal

pub returns-in_err-values-clause-refused : goal.returns-in_err-values-clause-refused
returns-in_err-values-clause-refused c =
    let p = err_from_is_err_and c.from_residual.result c.from_residual.ensures.1 in
    rw (p.1, p.2) (λ is area a. c.in_err-values.ensures.refused (same_error _ _ is) _ a.spelled)
