use Rattle.std.proofs.Common.{List, IfOk, sym, subst}
use Rattle.hb_types.specs.declared.change.Stored.{Stored}
use Rattle.hb_access.specs.declared.goal.Got.{Got}
use Rattle.hb_access.specs.declared.goal.Got.TheVariants as got
use Rattle.hb_access.specs.Accesses.{use_of}
use Rattle.hb_plandefine.specs.Defines.{Goes, TellsGot, TellsRows, follows}
use Rattle.hb_plandefine.proofs.defining.came.Goals as goal

pub returns-in-Rows-clause-goes : goal.returns-in-Rows-clause-goes
returns-in-Rows-clause-goes c =
    let leads : List Stored → Type 0 = λ rows. TellsRows c.args.then rows → IfOk c.with_rows.result (Goes (follows c.args.then (got.Rows rows) (use_of c.args.usage))) in
    subst (λ (g : Got). TellsGot c.args.then g → Goes (follows c.args.then g (use_of c.args.usage)) c.or_no_memory.result) (sym c.in-Rows.is)
    (λ tells. c.or_no_memory.ensures.goes (follows c.args.then (got.Rows c.in-Rows.rows) (use_of c.args.usage)) (subst leads c.as_slice.ensures c.with_rows.ensures.goes tells))
