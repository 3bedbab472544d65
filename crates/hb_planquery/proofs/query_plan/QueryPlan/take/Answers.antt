use Rattle.std.proofs.Common.{refl}
use Rattle.hb_reading.specs.Readings.{uses}
use Rattle.hb_planquery.proofs.Steps.{refused_names, came_names, refused_rows, came_rows, came_keeps, writes_keep}
use Rattle.hb_planquery.proofs.query_plan.QueryPlan.take.Goals as goal

pub returns-in-Refused-clause-hears : goal.returns-in-Refused-clause-hears
returns-in-Refused-clause-hears c = λ told. refused_names _ _ _ _ c.take.new.self c.args.answer c.in-Refused.reply c.self.view_is c.in-Names.is refl c.in-Refused.ensures.hears

pub returns-in-Came-clause-hears : goal.returns-in-Came-clause-hears
returns-in-Came-clause-hears c = λ told.
    came_names _ _ _ _ c.take.new.self _ _ _ c.self.view_is c.in-Names.is c.in-Came.ensures.hears c.in-Came.ensures.brings c.find.ensures.finds told

pub returns-in-Refused-take-clause-hears : goal.returns-in-Refused-take-clause-hears
returns-in-Refused-take-clause-hears c = λ told.
    refused_rows _ _ _ c.in-Rows.field-0 c.in-Rows.field-1 c.in-Rows.reading c.take-in-Rows.new.self c.args.answer c.in-Refused-take.reply c.self.view_is c.in-Rows.is refl
    c.in-Refused-take.ensures.hears told

pub returns-in-Came-take-clause-hears : goal.returns-in-Came-take-clause-hears
returns-in-Came-take-clause-hears c = λ told.
    came_rows _ _ c.end.new.self c.in-Rows.field-0 c.in-Rows.field-1 c.in-Rows.reading c.take-in-Rows.new.self c.args.answer c.in-Came-take.brought c.end.result c.self.view_is
    c.in-Rows.is c.in-Came-take.ensures.hears c.end.ensures.ends told

pub returns-in-Came-clause-used : goal.returns-in-Came-clause-used
returns-in-Came-clause-used c =
    came_keeps _ _ c.find.new.self _ c.take.new.self.usage.used.0 c.find.result c.self.view_is c.in-Names.is c.in-Came.ensures.used c.find.ensures.used

pub returns-in-Came-take-clause-used : goal.returns-in-Came-take-clause-used
returns-in-Came-take-clause-used c =
    came_keeps _ _ c.end.new.self _ (uses c.take-in-Rows.new.self).used.0 c.end.result c.self.view_is c.in-Rows.is c.in-Came-take.ensures.used c.end.ensures.used

pub returns-in-Writes-clause-used : goal.returns-in-Writes-clause-used
returns-in-Writes-clause-used c =
    writes_keep _ _ _ _ c.take-in-Writes.new.self c.take-in-Writes.result _ c.self.view_is c.in-Writes.is refl c.written.ensures c.take-in-Writes.ensures.used
