use Rattle.std.proofs.Common.{arith, refl}
use Rattle.std.proofs.lemmas.Result.{err_from_is_err_and}
use Rattle.hb_acts.proofs.Acting.{on_err, stops_memory}
use Rattle.hb_acts.proofs.PutTexts.{puts_nothing}
use Rattle.hb_acts.proofs.putting.put_line.Goals as goal

pub returns-in_err-text-clause-part : goal.returns-in_err-text-clause-part
returns-in_err-text-clause-part g c = on_err _ _ (puts_nothing _ _ _ refl)

pub returns-in_err-text-clause-cause : goal.returns-in_err-text-clause-cause
returns-in_err-text-clause-cause g c =
    let p = err_from_is_err_and c.from_residual.result c.from_residual.ensures.1 in
    stops_memory _ _ (omega arith) p.0 p.2 _ p.1
