use Rattle.std.proofs.Common.{◌≡◌, IfOk, sym, subst}
use Rattle.hb_model.specs.declared.statement.What.TheVariants as what
use Rattle.hb_endings.specs.Rows.{AreOf}
use Rattle.hb_endings.specs.Endings.{told, select_end, update_end, delete_end}
use Rattle.hb_planquery.specs.Queries.{end_at}
use Rattle.hb_planquery.proofs.endings.end_of.Goals as goal

pub returns-in-Select-clause-end : goal.returns-in-Select-clause-end
returns-in-Select-clause-end c = λ are.
    let res = c.select_ending.result in
    let t = c.args.table in
    let rows = c.as_slice-in-Select.ensures in
    subst (λ q. IfOk res (λ e. told e ≡ end_at q (c.args.number, t) c.args.brought)) (sym c.in-Select.is)
    (subst (λ rs. IfOk res (λ e. told e ≡ select_end t c.in-Select.what c.in-Select.pred rs)) rows (c.select_ending.ensures.end (subst (AreOf t) (sym rows) are)))

pub returns-in-Update-clause-end : goal.returns-in-Update-clause-end
returns-in-Update-clause-end c = λ are.
    let res = c.update_ending.result in
    let t = c.args.table in
    let sets = c.as_slice-in-Update.ensures in
    let rows = c.as_slice-in-Update-2.ensures in
    subst (λ q. IfOk res (λ e. told e ≡ end_at q (c.args.number, t) c.args.brought)) (sym c.in-Update.is)
    (subst (λ ss. IfOk res (λ e. told e ≡ update_end t ss c.in-Update.pred c.args.brought.rows)) sets
    (subst (λ rs. IfOk res (λ e. told e ≡ update_end t c.as_slice-in-Update.result.now c.in-Update.pred rs)) rows
    (c.update_ending.ensures.end (subst (AreOf t) (sym rows) are))))

pub returns-in-Delete-clause-end : goal.returns-in-Delete-clause-end
returns-in-Delete-clause-end c = λ are.
    let res = c.delete_ending.result in
    let t = c.args.table in
    let rows = c.as_slice-in-Delete.ensures in
    subst (λ q. IfOk res (λ e. told e ≡ end_at q (c.args.number, t) c.args.brought)) (sym c.in-Delete.is)
    (subst (λ rs. IfOk res (λ e. told e ≡ delete_end t c.in-Delete.pred rs)) rows (c.delete_ending.ensures.end (subst (AreOf t) (sym rows) are)))
