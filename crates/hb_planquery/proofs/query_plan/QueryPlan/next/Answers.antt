use Rattle.std.proofs.Common.{ap}
use Rattle.hb_planquery.specs.contracts.query_plan.QueryPlan.{the_view}
use Rattle.hb_planquery.proofs.Steps.{next_names, next_rows, next_writes, ended_asks}
use Rattle.hb_planquery.proofs.query_plan.QueryPlan.next.Goals.{in-Names, in-Rows, in-Writes, in-Ended}
use Rattle.hb_planquery.proofs.query_plan.QueryPlan.next.Goals as goal

pub returns-clause-next : goal.returns-clause-next
returns-clause-next c = elim c.match-self.branch [
  | in-Names w ↦ next_names _ _ _ _ _ _ _ c.self.view_is w.in-Names.is (ap the_view w.self-inside-is) w.result-is w.next.ensures.next
  | in-Rows w ↦ next_rows _ _ _ _ _ _ _ _ _ c.self.view_is w.in-Rows.is (ap the_view w.self-inside-is) w.result-is w.next-in-Rows.ensures.next
  | in-Writes w ↦ next_writes _ _ _ _ _ _ _ c.self.view_is w.in-Writes.is (ap the_view w.self-inside-is) w.result-is w.next-in-Writes.ensures.next
  | in-Ended w ↦ absurd (ended_asks _ _ _ c.self.view_is w.in-Ended.is c.requires)
]
