use Rattle.std.specs.Prelude.{drop}
use Rattle.hb_batch.proofs.Steps.{came_heard, came_keeps, more_heard, refused_heard}
use Rattle.hb_batch.proofs.batch.Batch.take.Goals as goal

pub returns-in-More-clause-hears : goal.returns-in-More-clause-hears
returns-in-More-clause-hears c = λ _. more_heard _ _ _ _ c.self.view_is c.in-More.ensures.hears

pub returns-in-Refused-clause-hears : goal.returns-in-Refused-clause-hears
returns-in-Refused-clause-hears c = λ _. refused_heard _ _ c.take.new.self _ _ c.self.view_is c.in-Refused.ensures.hears

pub returns-in-Came-clause-hears : goal.returns-in-Came-clause-hears
returns-in-Came-clause-hears c =
    let s = c.self.inside in
    λ told. came_heard _ (record { access = s.access; hint = s.hint; part = s.part; key = s.key; keys = drop s.at s.keys; moved = s.moved }) _ c.take.new.self _ _ _
    c.self.view_is c.in-Came.ensures.hears c.in-Came.ensures.brings c.come.ensures.goes told

pub returns-in-Came-clause-used : goal.returns-in-Came-clause-used
returns-in-Came-clause-used c =
    let s = c.self.inside in
    came_keeps _ (record { access = s.access; hint = s.hint; part = s.part; key = s.key; keys = drop s.at s.keys; moved = s.moved }) _ c.take.new.self _
    c.self.view_is c.in-Came.ensures.used c.come.ensures.stays
