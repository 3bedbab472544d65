use Rattle.std.proofs.Common.{subst, sym, ap}
use Rattle.hb_round.specs.Rounds.{AreRows}
use Rattle.hb_round.proofs.Steps.{more_heard, refused_heard, came_heard, came_brings, came_keeps}
use Rattle.hb_round.proofs.round.Round.take.Goals as goal

pub returns-in-More-clause-hears : goal.returns-in-More-clause-hears
returns-in-More-clause-hears c = more_heard _ _ _ _ c.self.view_is c.in-More.ensures.hears

pub returns-in-More-clause-rows : goal.returns-in-More-clause-rows
returns-in-More-clause-rows c = λ _ rows. subst AreRows (sym (ap (λ r. r.rows) c.self.view_is)) rows

pub returns-in-Refused-clause-hears : goal.returns-in-Refused-clause-hears
returns-in-Refused-clause-hears c = refused_heard _ _ c.take.new.self _ _ c.self.view_is c.in-Refused.ensures.hears

pub returns-in-Came-clause-hears : goal.returns-in-Came-clause-hears
returns-in-Came-clause-hears c = came_heard _ _ _ _ _ _ _ c.self.view_is c.in-Came.ensures.hears c.gather.ensures

pub returns-in-Came-clause-rows : goal.returns-in-Came-clause-rows
returns-in-Came-clause-rows c = came_brings _ _ _ _ _ _ _ c.self.view_is c.in-Came.ensures.brings c.gather.ensures

pub returns-in-Came-clause-used : goal.returns-in-Came-clause-used
returns-in-Came-clause-used c = came_keeps _ _ _ _ _ _ c.self.view_is c.in-Came.ensures.used c.gather.ensures
