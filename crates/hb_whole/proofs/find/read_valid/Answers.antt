use Rattle.std.proofs.Common.{◌∙◌, sym, ap, arith}
use Rattle.std.proofs.lemmas.Result.{IfOk-weaker}
use Rattle.hb_whole.specs.Headers.{chosen}
use Rattle.hb_whole.proofs.Finding.{nothing_found, window_inside}
use Rattle.hb_whole.proofs.Quiet.{quiet_then}
use Rattle.hb_whole.proofs.find.read_valid.Goals as goal

pub returns-in-None-clause-found : goal.returns-in-None-clause-found
returns-in-None-clause-found g c = λ read told is_size long.
    let starts = c.deref.ensures.value ∙ c.in-Ok.ensures.bytes read told ∙ window_inside read 0 128 (omega (arith, is_size, long)) in
    let n = c.nothing.ensures in
    nothing_found read c.deref.result.now _ _ _ _ (omega (arith, is_size, long)) starts (sym c.choose.ensures ∙ c.in-None.is) n.valid n.spare_open n.point n.rows

pub returns-clause-found : goal.returns-clause-found
returns-clause-found g c =
    IfOk-weaker c.read_point.result _ _ (λ found f. λ read told is_size long.
    let starts = c.in-Ok.ensures.bytes read told ∙ window_inside read 0 128 (omega (arith, is_size, long)) in
    f read (c.read_bytes.ensures.content ∙ told) is_size long (c.deref-in-Some.ensures.value ∙ starts)
    (ap chosen (c.deref-in-Some.ensures.value ∙ sym c.deref.ensures.value) ∙ sym c.choose.ensures ∙ c.in-Some.is)) c.read_point.ensures.found

pub returns-clause-damaged : goal.returns-clause-damaged
returns-clause-damaged g c = λ place is read told is_size long.
    let starts = c.in-Ok.ensures.bytes read told ∙ window_inside read 0 128 (omega (arith, is_size, long)) in
    c.read_point.ensures.damaged place is read (c.read_bytes.ensures.content ∙ told) is_size long (c.deref-in-Some.ensures.value ∙ starts)
    (ap chosen (c.deref-in-Some.ensures.value ∙ sym c.deref.ensures.value) ∙ sym c.choose.ensures ∙ c.in-Some.is)

pub returns-clause-quiet : goal.returns-clause-quiet
returns-clause-quiet g c = quiet_then _ _ _ _ _ _ _ _ _ c.read_bytes.ensures.quiet c.read_point.ensures.quiet
