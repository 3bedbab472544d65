use Rattle.std.proofs.Common.{◌≡◌, true, List, subst, sym, ◌∙◌, ap, arith}
use Rattle.std.specs.List.{list_any}
use Rattle.hb_types.specs.declared.value.Value.{Value}
use Rattle.hb_model.specs.Rows.{considers, truth}
use Rattle.std.specs.Prelude.{◌&&◌, is_none}
use Rattle.std.proofs.lemmas.List.{take_all}
use Rattle.hb_endings.specs.Rows.{is_unknown}
use Rattle.hb_endings.proofs.Ends.{overflows_at, none_overflows}
use Rattle.hb_endings.proofs.choosing.chosen.Goals as goal

pub returns-in_err-chooses-clause-overflow : goal.returns-in_err-chooses-clause-overflow
returns-in_err-chooses-clause-overflow c = λ h.
    let t = c.args.table.now in
    let pred = c.args.pred.now in
    overflows_at t pred c.args.rows.now c.loop-l.l-index c.l-item.result c.loop-l-test.true c.l-item.is
    (subst (λ (row : List Value). (considers t pred row && is_none (truth t pred row)) ≡ true) c.as_slice.ensures c.in_err-chooses.ensures.overflow)

pub returns-clause-told : goal.returns-clause-told
returns-clause-told c =
    none_overflows c.args.table.now c.args.pred.now c.args.rows.now (sym c.is_outside.ensures ∙ c.if-is_outside.false)
    (ap (list_any (is_unknown c.args.table.now c.args.pred.now)) (sym (take_all c.loop-l.l-index c.args.rows.now (omega arith))) ∙ c.loop-l.invariant.told)
