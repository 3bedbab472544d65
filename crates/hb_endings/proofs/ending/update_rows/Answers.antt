use Rattle.std.proofs.Common.{◌≡◌, map, Some, None, false, refl, ap, sym, ◌∙◌}
use Rattle.std.proofs.lemmas.Result.{IfOk-weaker}
use Rattle.hb_model.specs.Rows.{chooses}
use Rattle.hb_endings.specs.Endings.{told, assigning, updating}
use Rattle.hb_endings.specs.Rows.{IsFit, chosen_of}
use Rattle.hb_endings.proofs.Ends.{checked_assignable, update_at}
use Rattle.hb_endings.proofs.FitRows.{each_passed}
use Rattle.hb_endings.proofs.ending.update_rows.Goals as goal

pub returns-in-Some-clause-end : goal.returns-in-Some-clause-end
returns-in-Some-clause-end c =
    sym (update_at c.args.table.now c.args.pred.now c.args.rows.now c.args.sets.now (Some c.in-Some.refusal) _ (sym c.in-Some.is ∙ c.update_check.ensures) refl)

pub update_found-requires-clause-assignable : goal.update_found-requires-clause-assignable
update_found-requires-clause-assignable c = checked_assignable c.args.table.now c.args.sets.now c.args.pred.now (sym c.update_check.ensures ∙ c.in_default.is)

pub update_found-requires-clause-fit : goal.update_found-requires-clause-fit
update_found-requires-clause-fit c = rw (c.as_slice.ensures, c.in-Ok.ensures.chosen) (each_passed (IsFit c.args.table.now) (λ l. chooses c.args.table.now c.args.pred.now l.1) c.args.rows.now c.requires.fit)

pub returns-in-Ok-clause-end : goal.returns-in-Ok-clause-end
returns-in-Ok-clause-end c =
    let t = c.args.table.now in
    let sets = c.args.sets.now in
    let pred = c.args.pred.now in
    let found : map (λ l. l.now) c.as_slice.result.now ≡ chosen_of t pred c.args.rows.now = rw c.as_slice.ensures c.in-Ok.ensures.chosen in
    IfOk-weaker c.update_found.result (λ e. told e ≡ assigning t sets (map (λ l. l.now) c.as_slice.result.now)) (λ e. told e ≡ updating t sets pred c.args.rows.now)
    (λ e is. is ∙ ap (assigning t sets) found ∙ sym (update_at t pred c.args.rows.now sets None false (sym c.in_default.is ∙ c.update_check.ensures) c.in-Ok.ensures.told))
    c.update_found.ensures.end
