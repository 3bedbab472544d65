use Rattle.std.proofs.Common.{◌≡◌, Some, ap, ◌∙◌, subst}
use Rattle.hb_access.specs.Accesses.{use_of}
use Rattle.hb_endings.specs.Endings.{told}
use Rattle.hb_planquery.specs.Queries.{end_at}
use Rattle.hb_planquery.specs.QueryPlans.{HasTable, uses_at}
use Rattle.hb_planquery.proofs.Steps.{ends_at}
use Rattle.hb_planquery.proofs.query_plan.QueryPlan.end.Goals as goal

pub returns-in-Ok-clause-ends : goal.returns-in-Ok-clause-ends
returns-in-Ok-clause-ends c =
    let now = c.args.self.now in
    ends_at now.stage now c.finish.new.self c.args.brought (c.in-Some.number, c.in-Some.table) (told c.in-Ok.ending) (use_of (uses_at c.replace.new.dest)) c.finish.result
    (subst (λ s. HasTable s (Some (c.in-Some.number, c.in-Some.table))) (c.replace.ensures.value ∙ ap (λ p. p.stage) c.self.view_is) c.in-Some.ensures.table)
    (λ are. subst (λ o. told c.in-Ok.ending ≡ end_at o.query (c.in-Some.number, c.in-Some.table) c.args.brought) c.self.view_is (c.in-Ok.ensures.end are))
    (ap (λ s. use_of (uses_at s)) c.replace.ensures.after ∙ ap use_of c.usage-usage.ensures) c.finish.ensures.ends
