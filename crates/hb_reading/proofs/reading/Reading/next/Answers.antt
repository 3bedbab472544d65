use Rattle.std.proofs.Common.{ap}
use Rattle.hb_reading.specs.contracts.reading.Reading.{the_view}
use Rattle.hb_reading.proofs.Steps.{next_first, next_rows, keeps_first, keeps_rows}
use Rattle.hb_reading.proofs.reading.Reading.next.Goals.{in-First, in-Rows}
use Rattle.hb_reading.proofs.reading.Reading.next.Goals as goal

pub returns-clause-next : goal.returns-clause-next
returns-clause-next c = elim c.match-self.branch [
  | in-First w ↦ next_first _ _ _ _ _ _ _ c.self.view_is w.in-First.is (ap the_view w.self-inside-is) w.result-is w.next.ensures.next
  | in-Rows w ↦ next_rows _ _ _ _ _ _ _ _ c.self.view_is w.in-Rows.is (ap the_view w.self-inside-is) w.result-is w.next-in-Rows.ensures.next
]

pub returns-clause-rows : goal.returns-clause-rows
returns-clause-rows c = elim c.match-self.branch [
  | in-First w ↦ λ has. keeps_first c.args.self.now (the_view c.self.inside) _ _ (ap the_view w.self-inside-is) has
  | in-Rows w ↦ λ has. keeps_rows _ _ _ _ _ _ c.self.view_is w.in-Rows.is (ap the_view w.self-inside-is) w.next-in-Rows.ensures.rows has
]
