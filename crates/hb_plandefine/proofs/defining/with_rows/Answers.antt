use Rattle.std.proofs.Common.{ℕ, List, IfOk, sym, subst}
use Rattle.hb_access.specs.declared.goal.Got.TheVariants as got
use Rattle.hb_access.specs.Accesses.{use_of}
use Rattle.hb_plandefine.specs.declared.stage.Then.{Then}
use Rattle.hb_plandefine.specs.Defines.{CanSpread, Goes, TellsRows, follows, spread_out}
use Rattle.hb_plandefine.proofs.defining.with_rows.Goals as goal

pub returns-in-Entries-clause-goes : goal.returns-in-Entries-clause-goes
returns-in-Entries-clause-goes c =
    let rows = c.args.rows.now in
    let area = c.in-Entries.area in
    subst (λ (t : Then). TellsRows t rows → IfOk c.entries_came.result (Goes (follows t (got.Rows rows) (use_of c.args.usage)))) (sym c.in-Entries.is)
    (subst (λ (ms : List ℕ). CanSpread ms area rows → IfOk c.entries_came.result (Goes (spread_out c.in-Entries.number area ms rows (use_of c.args.usage)))) c.as_slice.ensures.value
    c.entries_came.ensures.goes)
