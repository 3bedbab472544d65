use Rattle.std.proofs.Common.{refl}
use Rattle.hb_reading.specs.contracts.reading.Reading.{the_view}
use Rattle.hb_reading.proofs.Steps.{refused_first, came_first, rows_heard, rows_brought, rows_ask, came_keeps, rows_keep}
use Rattle.hb_reading.proofs.reading.Reading.take.Goals as goal

pub returns-in-Refused-clause-hears : goal.returns-in-Refused-clause-hears
returns-in-Refused-clause-hears c = λ told forced. refused_first _ _ _ c.take.new.self _ _ c.self.view_is c.in-First.is c.in-Refused.ensures.hears

pub returns-in-Came-clause-hears : goal.returns-in-Came-clause-hears
returns-in-Came-clause-hears c = λ told.
    came_first _ _ _ _ c.take.new.self _ _ _ c.self.view_is c.in-First.is c.in-Came.ensures.hears c.in-Came.ensures.brings c.enter.ensures.enters told

pub returns-in-Rows-clause-hears : goal.returns-in-Rows-clause-hears
returns-in-Rows-clause-hears c = λ told.
    rows_heard _ _ _ _ c.take-in-Rows.new.self c.in-Rows.entry _ c.take-in-Rows.result _ c.self.view_is c.in-Rows.is refl c.with_entry.ensures
    c.take-in-Rows.ensures.hears

pub returns-in-Rows-clause-rows : goal.returns-in-Rows-clause-rows
returns-in-Rows-clause-rows c = λ has is.
    rows_brought _ _ _ _ c.take-in-Rows.new.self c.in-Rows.entry c.take-in-Rows.result _ c.self.view_is c.in-Rows.is refl c.with_entry.ensures
    (c.take-in-Rows.ensures.rows is) has

pub returns-in-Rows-clause-asking : goal.returns-in-Rows-clause-asking
returns-in-Rows-clause-asking c =
    rows_ask (the_view c.self.inside) _ c.in-Rows.round c.take-in-Rows.new.self c.in-Rows.entry c.args.answer c.take-in-Rows.result _ refl c.with_entry.ensures c.take-in-Rows.ensures.hears

pub returns-in-Came-clause-used : goal.returns-in-Came-clause-used
returns-in-Came-clause-used c =
    came_keeps _ _ c.enter.new.self _ c.take.new.self c.enter.result c.self.view_is c.in-First.is c.in-Came.ensures.used c.enter.ensures.used

pub returns-in-Rows-clause-used : goal.returns-in-Rows-clause-used
returns-in-Rows-clause-used c =
    rows_keep _ _ _ _ c.take-in-Rows.new.self c.in-Rows.entry c.take-in-Rows.result _ c.self.view_is c.in-Rows.is refl c.with_entry.ensures
    c.take-in-Rows.ensures.used
