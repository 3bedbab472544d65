use Rattle.std.proofs.Common.{◌≡◌, IfOk, sym, subst}
use Rattle.hb_model.specs.Told.{table_among}
use Rattle.hb_planrows.specs.PlanRows.{TellTables}
use Rattle.hb_planquery.specs.Queries.{rows_in, TellsTables}
use Rattle.hb_planquery.proofs.query_plan.found.Goals as goal

pub returns-in-Rows-clause-found : goal.returns-in-Rows-clause-found
returns-in-Rows-clause-found c = λ tells.
    let res = c.find_table.result in
    subst (λ g. IfOk res (λ f. f ≡ table_among (rows_in g) c.args.name.now)) (sym c.in-Rows.is)
    (subst (λ rs. IfOk res (λ f. f ≡ table_among rs c.args.name.now)) c.as_slice.ensures
    (c.find_table.ensures.found (subst TellTables (sym c.as_slice.ensures) (subst TellsTables c.in-Rows.is tells))))
