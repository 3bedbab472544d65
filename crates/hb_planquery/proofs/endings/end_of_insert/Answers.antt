use Rattle.std.proofs.Common.{◌≡◌, IfOk, sym, subst}
use Rattle.hb_endings.specs.Rows.{AreOf}
use Rattle.hb_endings.specs.Endings.{told, insert_end}
use Rattle.hb_planquery.specs.Queries.{insert_with}
use Rattle.hb_planquery.proofs.endings.end_of_insert.Goals as goal

pub returns-in-Some-clause-end : goal.returns-in-Some-clause-end
returns-in-Some-clause-end c = λ are.
    let res = c.insert_ending.result in
    let t = c.args.table in
    subst (λ o. IfOk res (λ e. told e ≡ insert_with (c.args.number, t) c.args.values.now c.args.brought.rows o)) (sym c.in-Some.is)
    (subst (λ rs. IfOk res (λ e. told e ≡ insert_end (c.args.number, t) c.args.values.now c.in-Some.entry rs)) c.as_slice.ensures
    (c.insert_ending.ensures.end (subst (AreOf t) (sym c.as_slice.ensures) are)))
