use Rattle.std.proofs.Common.{◌≡◌, None, Some, refl, sym, subst}
use Rattle.hb_planquery.specs.declared.query_plan.Taken.TheVariants as taken
use Rattle.hb_planquery.specs.Queries.{early, aim_at}
use Rattle.hb_planquery.specs.QueryPlans.{Reads}
use Rattle.hb_planquery.proofs.Steps.{reads_on, reads_refused}
use Rattle.hb_planquery.proofs.query_plan.QueryPlan.read.Goals as goal

pub returns-in-Ok-clause-reads : goal.returns-in-Ok-clause-reads
returns-in-Ok-clause-reads c =
    subst (λ z. Reads c.args.self.now z c.args.number c.args.table taken.More) (sym c.enter.ensures)
    (reads_on c.args.self.now c.args.self.now _ _ _ _ c.begin-reading.result refl c.usage-usage.ensures
    (subst (λ o. early o.query c.args.table ≡ None) c.self.view_is c.in-Ok.ensures.0)
    (subst (λ o. c.in-Ok.aim ≡ aim_at o.query c.args.table) c.self.view_is c.in-Ok.ensures.1) c.begin-reading.ensures.asking c.begin-reading.ensures.talk)

pub returns-in-Err-clause-reads : goal.returns-in-Err-clause-reads
returns-in-Err-clause-reads c =
    reads_refused c.args.self.now c.args.self.now _ _ c.in-Err.reply refl (subst (λ o. early o.query c.args.table ≡ Some c.in-Err.reply) c.self.view_is c.in-Err.ensures)
